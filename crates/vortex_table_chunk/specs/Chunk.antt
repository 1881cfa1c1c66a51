-- The model's chunks of those in code.
use Rattle.std.specs.Prelude.{ℕ, List, sum_by}
use Rattle.vortex_model.specs.Content.{Content}
use Rattle.vortex_arrays_model.specs.Layout.{len_of, rows_of}
use Rattle.vortex_table_chunk.specs.declared.chunk.Chunk.{Chunk}

-- the rows of a chunk
abbrev pub chunk_rows : Chunk → List Content
chunk_rows c = rows_of c.array

-- how many rows there are
abbrev pub row_count : List Chunk → ℕ
row_count chunks = sum_by (λ c. len_of c.array) chunks
