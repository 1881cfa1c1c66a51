use Rattle.vortex_arrays_concat.proofs.RowLemmas.{Counted}
use Rattle.vortex_arrays_concat.proofs.rows.count_rows.Given as goal

abbrev pub invariant-loop-array : goal.invariant-loop-array
invariant-loop-array l = Counted l.arrays l.array-index l.rows
