use Rattle.std.proofs.Common.{◌≡◌, drop}
use Rattle.vortex_dtype_core.specs.View.{type_of}
use Rattle.vortex_table_chunk.proofs.LeafTypes.{type_aside}
use Rattle.vortex_table_chunk.proofs.retyped.leaf_type.Given as goal

abbrev pub invariant-loop-position : goal.invariant-loop-position
invariant-loop-position l =
    type_aside (type_of l.part) (drop l.position-index l.leaf) ≡ type_aside (type_of l.dtype) l.leaf
