use Rattle.std.proofs.Common.{◌≡◌, take, drop}
use Rattle.vortex_model_table.specs.Command.{first_unconvertible}
use Rattle.vortex_table_chunk.specs.Chunk.{row_count}
use Rattle.vortex_table_layout.specs.Retyping.{source_of, target_of}
use Rattle.vortex_table_layout.proofs.ConvertedRows.{all_rows}
use Rattle.vortex_table_layout.proofs.retyping.Retyping.test_chunks.Given as goal

abbrev pub invariant-loop-chunk : goal.invariant-loop-chunk
invariant-loop-chunk l = record {
  counted : l.first ≡ row_count (take l.chunk-index l.chunks);
  left : first_unconvertible l.first (source_of l.self) (target_of l.self) (all_rows (drop l.chunk-index l.chunks)) ≡ first_unconvertible 0 (source_of l.self) (target_of l.self) (all_rows l.chunks);
}
