-- The rows of formed chunks: of the type, and counted.
use Rattle.std.proofs.Common.{◌≡◌, refl, subst, ℕ, zero, suc, ◌+◌, ◌<◌, List, [], ◌∷◌, length, map, get_or, Bool, true, ◌&&◌, IsTrue, arith}
use Rattle.std.specs.List.{AllByRecursion, list_all, range_with_len}
use Rattle.std.proofs.lemmas.List.Sums.{sum_by-append}
use Rattle.std.specs.Cmp.{first_so, second_so}
use Rattle.vortex_model.specs.LogicalType.{LogicalType, stored}
use Rattle.vortex_model.specs.Path.{Positions}
use Rattle.vortex_model.specs.Valid.{valid, IsContent}
use Rattle.vortex_model.specs.Laws.{TestsOfValidityAreRight}
use Rattle.vortex_model.proofs.Contents.{said}
use Rattle.vortex_model_laws.proofs.Outcomes.{sum_first}
use Rattle.vortex_model.proofs.Tests.{has_so}
use Rattle.vortex_arrays_model.specs.Layout.{Layout, len_of, array_type_of, content_at, IsSound}
use Rattle.vortex_arrays_model.proofs.RowsLemmas.{row_count as rows_counted}
use Rattle.vortex_arrays_core.specs.RawRows.{raw_row}
use Rattle.vortex_arrays_core.proofs.RawRowsLemmas.{says, raw_valid}
use Rattle.vortex_scalar_value.specs.View.{raw_of}
use Rattle.vortex_scalar_value.specs.declared.scalar_value.ScalarValue.{ScalarValue}
use Rattle.vortex_table_schema.specs.Rows.{row_content}
use Rattle.vortex_table_chunk.specs.Chunk.{chunk_rows, row_count}
use Rattle.vortex_table_chunk.specs.Rows.{are_rows_valid}
use Rattle.vortex_table_chunk.specs.Formed.{is_formed}
use Rattle.vortex_table_chunk.specs.Joined.{rows_in}
use Rattle.vortex_table_chunk.specs.declared.chunk.Chunk.{Chunk}
use Rattle.vortex_table_chunk.proofs.Formed.{of_type}

pub list_all_at : {X : Type 0} (p : X → Bool) (xs : List X) (i : ℕ) (d : X) → list_all p xs ≡ true → i < length xs → p (get_or xs i d) ≡ true
list_all_at p [] i d h g = absurd (omega (arith, g))
list_all_at p (x ∷ xs) zero d h g = first_so (p x) (list_all p xs) h
list_all_at p (x ∷ xs) (suc i) d h g = list_all_at p xs i d (second_so (p x) (list_all p xs) h) (omega (arith, g))

-- valid rows say contents of the type
pub rows_said : (k : LogicalType) (rows : List ScalarValue) → list_all (λ row. valid k (raw_of row)) rows ≡ true → AllByRecursion (IsContent k) (map row_content rows)
rows_said k [] h = tt
rows_said k (row ∷ rows) h =
    let behind = list_all (λ (r : ScalarValue). valid k (raw_of r)) rows in (
      said (stored k) (raw_of row) (has_so (stored k) (raw_of row) (first_so (valid k (raw_of row)) behind h)),
      rows_said k rows (second_so (valid k (raw_of row)) behind h),
    )

-- ---- the rows of an array whose parts fit together

module _ (a : Layout) where
  abbrev is_row : ℕ → Bool
  is_row i = valid (array_type_of a) (raw_row a i)

  all_valid : TestsOfValidityAreRight → IsSound a → (from n : ℕ) → from + n ≡ len_of a → list_all is_row (range_with_len from n) ≡ true
  all_valid right s from zero e = refl
  all_valid right s from (suc n) e =
      (λ j. (right (array_type_of a) (raw_row a from)).1 (raw_valid a s from (omega (arith, e))) j
      && all_valid right s (from + 1) n (omega (arith, e)) j)

  pub rows_pass : TestsOfValidityAreRight → IsSound a → are_rows_valid a ≡ true
  rows_pass right s = all_valid right s 0 (len_of a) (let e : 0 + len_of a ≡ len_of a = omega arith in e)

  all_contents : (from n : ℕ) → list_all is_row (range_with_len from n) ≡ true → AllByRecursion (IsContent (array_type_of a)) (map (content_at a) (range_with_len from n))
  all_contents from zero h = tt
  all_contents from (suc n) h =
      let behind = list_all is_row (range_with_len (from + 1) n) in (
        subst (IsContent (array_type_of a)) (says a from) (said (stored (array_type_of a)) (raw_row a from) (has_so (stored (array_type_of a)) (raw_row a from) (first_so (is_row from) behind h))),
        all_contents (from + 1) n (second_so (is_row from) behind h),
      )

-- ---- the rows of chunks

-- the parts of a chunk's array fit together
pub chunk_sound : (c : Chunk) → ∥ IsSound c.array ∥₁
chunk_sound c = c.sound

pub chunk_said : (c : Chunk) → AllByRecursion (IsContent (array_type_of c.array)) (chunk_rows c)
chunk_said c = all_contents c.array 0 (len_of c.array) c.typed

-- the rows of a formed chunk are of the type
pub formed_said : (L : Positions → ℕ) (k : LogicalType) (c : Chunk) → IsTrue (is_formed L k c) → AllByRecursion (IsContent k) (chunk_rows c)
formed_said L k c formed = subst (λ l. AllByRecursion (IsContent l) (chunk_rows c)) (of_type L k c formed) (chunk_said c)

pub all_said : (L : Positions → ℕ) (k : LogicalType) (chunks : List Chunk) → list_all (is_formed L k) chunks ≡ true → AllByRecursion (λ chunk. AllByRecursion (IsContent k) chunk) (map chunk_rows chunks)
all_said L k [] h = tt
all_said L k (c ∷ chunks) h = (
  formed_said L k c (first_so (is_formed L k c) (list_all (is_formed L k) chunks) h),
  all_said L k chunks (second_so (is_formed L k c) (list_all (is_formed L k) chunks) h),
)

pub chunk_counted : (c : Chunk) → length (chunk_rows c) ≡ len_of c.array
chunk_counted c = rows_counted c.array

pub all_counted : (chunks : List Chunk) → rows_in (map chunk_rows chunks) ≡ row_count chunks
all_counted [] = refl
all_counted (c ∷ chunks) =
    let n : ℕ = len_of c.array in let m : ℕ = row_count chunks in
    let one : row_count (c ∷ chunks) ≡ (0 + n) + m = sum_by-append (λ (x : Chunk). len_of x.array) (c ∷ []) chunks in
    let first = sum_first (length (chunk_rows c)) (map length (map chunk_rows chunks)) in
    let same = chunk_counted c in let rest = all_counted chunks in
    omega (arith, one, first, same, rest)

pub ruleset passed = (rows_pass)
