-- The model's tables and answers of those in code.
use Rattle.std.specs.Prelude.{map}
use Rattle.vortex_model_table.specs.Table as model
use Rattle.vortex_dtype_core.specs.View.{type_of}
use Rattle.vortex_table_chunk.specs.Chunk.{chunk_rows}
use Rattle.vortex_table_core.specs.declared.table.Table.{Table}

abbrev pub table_of : Table → model.Table
table_of t = record {
  kind = type_of t.dtype;
  default = t.bound_lengths.default;
  lengths = t.bound_lengths.entries.items;
  chunks = map chunk_rows t.chunks.items;
  groups = map (λ g. g.chunks) t.groups;
}
