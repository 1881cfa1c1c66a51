-- Rows of a type that tables hold convert to that type.
use Rattle.std.proofs.Common.{◌≡◌, refl, sym, ◌∙◌, ap, ℕ, zero, suc, ◌+◌, List, [], ◌∷◌, length, map, true, Some, None, if◌then◌else◌}
use Rattle.std.specs.List.{list_all, range_with_len}
use Rattle.std.specs.Cmp.{first_so, second_so}
use Rattle.vortex_model.specs.LogicalType.{LogicalType}
use Rattle.vortex_model.specs.Convert.{converts}
use Rattle.vortex_model.specs.Kept.{type_fault}
use Rattle.vortex_model.specs.Path.{Positions}
use Rattle.vortex_model.specs.Refusal.{not_convertible, or_else}
use Rattle.vortex_model.specs.Valid.{valid}
use Rattle.vortex_model_table.specs.Command.{first_unconvertible}
use Rattle.vortex_arrays_model.specs.Layout.{Layout, len_of, array_type_of, content_at, rows_of}
use Rattle.vortex_arrays_core.specs.RawRows.{raw_row}
use Rattle.vortex_arrays_core.proofs.RawRowsLemmas.{says}
use Rattle.vortex_table_schema.proofs.OwnType.{part_converts, kept_part}
use Rattle.vortex_table_chunk.specs.Chunk.{chunk_rows}
use Rattle.vortex_table_chunk.specs.Rows.{are_rows_valid}
use Rattle.vortex_table_chunk.specs.Formed.{is_formed}
use Rattle.vortex_table_chunk.specs.declared.chunk.Chunk.{Chunk}
use Rattle.vortex_table_chunk.proofs.Formed.{of_type}
use Rattle.vortex_table_layout.proofs.ConvertedRows.{all_rows, unconvertible_on}

-- the rows of an array of the type that are values of it
module _ (k : LogicalType) (a : Layout) (kept : type_fault k ≡ None) (same : array_type_of a ≡ k) where
  row_converts : (i : ℕ) → valid (array_type_of a) (raw_row a i) ≡ true → converts k k (content_at a i) ≡ true
  row_converts i h = ap (converts k k) (sym (says a i)) ∙ part_converts k (raw_row a i) (kept_part k kept) (ap (λ t. valid t (raw_row a i)) (sym same) ∙ h)

  rows_from : (n from m : ℕ) → list_all (λ i. valid (array_type_of a) (raw_row a i)) (range_with_len from m) ≡ true → first_unconvertible n k k (map (content_at a) (range_with_len from m)) ≡ None
  rows_from n from zero h = refl
  rows_from n from (suc m) h =
      let behind = list_all (λ i. valid (array_type_of a) (raw_row a i)) (range_with_len (from + 1) m) in
      ap (λ b. if b then first_unconvertible (suc n) k k (map (content_at a) (range_with_len (from + 1) m)) else Some (not_convertible n)) (row_converts from (first_so (valid (array_type_of a) (raw_row a from)) behind h))
      ∙ rows_from (suc n) (from + 1) m (second_so (valid (array_type_of a) (raw_row a from)) behind h)

  pub rows_convert : (n : ℕ) → are_rows_valid a ≡ true → first_unconvertible n k k (rows_of a) ≡ None
  rows_convert n h = rows_from n 0 (len_of a) h

-- so none of the rows of formed chunks is refused
pub chunks_convert : (n : ℕ) (L : Positions → ℕ) (k : LogicalType) (chunks : List Chunk) → type_fault k ≡ None → list_all (is_formed L k) chunks ≡ true → first_unconvertible n k k (all_rows chunks) ≡ None
chunks_convert n L k [] f h = refl
chunks_convert n L k (c ∷ chunks) f h =
    unconvertible_on n k k (chunk_rows c) (all_rows chunks)
    ∙ ap (λ o. or_else o (first_unconvertible (n + length (chunk_rows c)) k k (all_rows chunks))) (rows_convert k c.array f (of_type L k c (first_so (is_formed L k c) (list_all (is_formed L k) chunks) h)) n c.typed)
    ∙ chunks_convert (n + length (chunk_rows c)) L k chunks f (second_so (is_formed L k c) (list_all (is_formed L k) chunks) h)
