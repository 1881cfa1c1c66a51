use Rattle.std.proofs.Common.{map}
use Rattle.vortex_table_chunk.specs.declared.chunk.Chunk.{Chunk}
use Rattle.vortex_table_core.proofs.Rearrayed.{FirstCompacted}
use Rattle.vortex_table_core.proofs.table.Table.compacted_arrays.Given as goal

abbrev pub invariant-loop-chunk : goal.invariant-loop-chunk
invariant-loop-chunk l = FirstCompacted (map (λ (c : Chunk). c.array) l.self.chunks.items) l.chunk-index l.arrays.items
