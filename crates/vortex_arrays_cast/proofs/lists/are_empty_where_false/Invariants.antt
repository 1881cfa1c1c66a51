use Rattle.vortex_arrays_model.specs.Layout.{bools, required, by_array}
use Rattle.vortex_arrays_cast.proofs.ListLemmas.{AreEmpty}
use Rattle.vortex_arrays_cast.proofs.lists.are_empty_where_false.Given as goal

abbrev pub invariant-loop-i : goal.invariant-loop-i
invariant-loop-i l = AreEmpty (by_array (bools l.bits required)) l.sizes l.i
