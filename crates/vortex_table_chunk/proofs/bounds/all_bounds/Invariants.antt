use Rattle.std.proofs.Common.{◌≡◌, true, take}
use Rattle.vortex_arrays_model.specs.Layout.{array_type_of, rows_of}
use Rattle.vortex_table_chunk.specs.Bounds.{AreBoundsOf, are_typed_at}
use Rattle.vortex_table_chunk.proofs.bounds.all_bounds.Given as goal

abbrev pub invariant-loop-index : goal.invariant-loop-index
invariant-loop-index l =
    AreBoundsOf (array_type_of l.array) (take l.index l.max_lengths) (take l.index l.leaves) l.all.items (rows_of l.array)
    × (are_typed_at (array_type_of l.array) (take l.index l.leaves) l.all.items ≡ true)
