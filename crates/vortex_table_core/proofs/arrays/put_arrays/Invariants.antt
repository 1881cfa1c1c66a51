use Rattle.std.specs.Vec.Iter.{into_iter_items}
use Rattle.vortex_table_core.proofs.Rearrayed.{Placing}
use Rattle.vortex_table_core.proofs.arrays.put_arrays.Given as goal

abbrev pub invariant-loop-array : goal.invariant-loop-array
invariant-loop-array l = Placing l.fn.chunks.items l.fn.arrays.items l.index l.chunks.items (into_iter_items l.array-iterator)
