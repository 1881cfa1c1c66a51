use Rattle.vortex_arrays_concat.proofs.RowLemmas.{ArePlaced}
use Rattle.vortex_arrays_concat.proofs.rows.rows_in.Given as goal

abbrev pub invariant-loop-i : goal.invariant-loop-i
invariant-loop-i l = ArePlaced l.array l.rows.items l.i
