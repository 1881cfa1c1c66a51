use Rattle.vortex_arrays_concat.proofs.ValidityLemmas.{Counted}
use Rattle.vortex_arrays_concat.proofs.validity_concat.count_rows.Given as goal

abbrev pub invariant-loop-part : goal.invariant-loop-part
invariant-loop-part l = Counted l.parts l.part-index l.rows
