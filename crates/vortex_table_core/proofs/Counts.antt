-- How many rows the chunks have.
use Rattle.std.proofs.Common.{◌≡◌, refl, ◌∙◌, ap, ℕ, ◌+◌, List, [], ◌∷◌, length, map, flat_map, fold}
use Rattle.std.proofs.lemmas.List.Concat.{length-flat_map}
use Rattle.vortex_model.specs.Content.{Content}
use Rattle.vortex_model.proofs.Lists.{none_left}
use Rattle.vortex_arrays_model.specs.Layout.{len_of}
use Rattle.vortex_table_chunk.specs.Chunk.{chunk_rows, row_count}
use Rattle.vortex_table_chunk.specs.declared.chunk.Chunk.{Chunk}
use Rattle.vortex_table_chunk.proofs.TypedRows.{chunk_counted}

counted : (n : ℕ) (chunks : List Chunk) → fold (λ m (rows : List Content). m + length rows) n (map chunk_rows chunks) ≡ fold (λ m c. m + len_of c.array) n chunks
counted n [] = refl
counted n (c ∷ cs) =
    ap (λ m. fold (λ k (rows : List Content). k + length rows) (n + m) (map chunk_rows cs)) (chunk_counted c)
    ∙ counted (n + len_of c.array) cs

pub all_rows : (chunks : List Chunk) → length (flat_map (λ chunk. chunk) (map chunk_rows chunks)) ≡ row_count chunks
all_rows chunks = length-flat_map (λ (rows : List Content). rows) (map chunk_rows chunks) ∙ counted 0 chunks

pub no_rows : (chunks : List Chunk) → row_count chunks ≡ 0 → flat_map (λ chunk. chunk) (map chunk_rows chunks) ≡ []
no_rows chunks h = none_left (flat_map (λ chunk. chunk) (map chunk_rows chunks)) (all_rows chunks ∙ h)
