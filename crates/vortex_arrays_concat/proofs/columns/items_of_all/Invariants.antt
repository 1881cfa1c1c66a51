use Rattle.std.proofs.Common.{map}
use Rattle.vortex_arrays_concat.proofs.ColumnLemmas.{Numbers}
use Rattle.vortex_arrays_concat.proofs.columns.items_of_all.Given as goal

abbrev pub invariant-loop-array : goal.invariant-loop-array
invariant-loop-array g l = Numbers g.T.Sealed.kind l.arrays l.array-index (map g.T.Sealed.integer l.all.items)
