use Rattle.vortex_arrays_validity.proofs.Overwritten.{IsOverwritten}
use Rattle.vortex_arrays_validity.proofs.patch.overwrite.Given as goal

abbrev pub invariant-loop-k : goal.invariant-loop-k
invariant-loop-k l = IsOverwritten l.fn.rows l.rows l.patches l.places l.k
