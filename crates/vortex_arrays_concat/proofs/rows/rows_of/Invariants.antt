use Rattle.vortex_arrays_concat.proofs.RowLemmas.{AreGathered}
use Rattle.vortex_arrays_concat.proofs.rows.rows_of.Given as goal

abbrev pub invariant-loop-array : goal.invariant-loop-array
invariant-loop-array l = AreGathered l.arrays l.array-index l.rows.items
