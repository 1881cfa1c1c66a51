use Rattle.std.proofs.Common.{◌≡◌, map, take, drop, true}
use Rattle.std.specs.List.{All, list_all}
use Rattle.vortex_model_table.specs.Command.{first_unconvertible}
use Rattle.vortex_arrays_builder.specs.Types.{IsPlainLayout}
use Rattle.vortex_table_chunk.specs.Chunk.{chunk_rows, row_count}
use Rattle.vortex_table_chunk.specs.Formed.{is_formed}
use Rattle.vortex_table_layout.specs.Retyping.{source_of, target_of, lengths_of}
use Rattle.vortex_table_layout.proofs.ConvertedRows.{all_rows}
use Rattle.vortex_table_layout.proofs.retyping.Retyping.convert_chunks.Given as goal

abbrev pub invariant-loop-chunk : goal.invariant-loop-chunk
invariant-loop-chunk l = record {
  counted : l.first ≡ row_count (take l.chunk-index l.chunks);
  formed : list_all (is_formed (lengths_of l.self) (target_of l.self)) l.converted.items ≡ true;
  rows : map chunk_rows l.converted.items ≡ map chunk_rows (take l.chunk-index l.chunks);
  plain : All (λ c. IsPlainLayout c.array) l.converted.items;
  left : first_unconvertible l.first (source_of l.self) (target_of l.self) (all_rows (drop l.chunk-index l.chunks)) ≡ first_unconvertible 0 (source_of l.self) (target_of l.self) (all_rows l.chunks);
}
