use Rattle.std.proofs.Common.{suc, map, take}
use Rattle.vortex_table_schema.specs.Leaves.{leaf_positions}
use Rattle.vortex_table_chunk.specs.Chunk.{chunk_rows}
use Rattle.vortex_table_layout.specs.InOrder.{AreJoinedInOrder}
use Rattle.vortex_table_layout.specs.Retyping.{target_of, lengths_of}
use Rattle.vortex_table_layout.proofs.retyping.Retyping.join_chunks.Given as goal

abbrev pub invariant-loop-chunk : goal.invariant-loop-chunk
invariant-loop-chunk l = ∥ AreJoinedInOrder (target_of l.self) (lengths_of l.self) (leaf_positions (target_of l.self)) l.joined.items (map chunk_rows (take (suc (suc l.chunk-index)) l.chunks)) ∥₁
