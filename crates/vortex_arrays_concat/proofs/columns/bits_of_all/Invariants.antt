use Rattle.vortex_arrays_concat.proofs.ColumnLemmas.{Bits}
use Rattle.vortex_arrays_concat.proofs.columns.bits_of_all.Given as goal

abbrev pub invariant-loop-array : goal.invariant-loop-array
invariant-loop-array l = Bits l.arrays l.array-index l.all.items
