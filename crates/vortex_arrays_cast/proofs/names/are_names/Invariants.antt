use Rattle.vortex_arrays_cast.proofs.NameLemmas.{FirstNamed}
use Rattle.vortex_arrays_cast.proofs.names.are_names.Given as goal

abbrev pub invariant-loop-i : goal.invariant-loop-i
invariant-loop-i l = FirstNamed l.names l.fields l.i
