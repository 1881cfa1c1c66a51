-- Worked arrays, and the rows that they represent.
use Rattle.std.proofs.Common.{◌≡◌, ◌<◌, ℕ, zero, suc, pos, negsuc, Bool, true, false, List, [], ◌∷◌, map, length, get_or, refl, arith}
use Rattle.std.specs.List.{flat_map, All}
use Rattle.std.proofs.lemmas.Int.{ints}
use Rattle.vortex_model.specs.LogicalType.{integer_type, utf8, list, non_nullable, nullable, u8, u64, i32, i64}
use Rattle.vortex_model.specs.Content.{Content, null, integer, text, byte_string, tuple, nothing, first, contents_from, raw_null}
use Rattle.vortex_model.specs.Valid.{InRange}
use Rattle.vortex_arrays_model.specs.Layout.{texts, byte_strings, Layout, bools, numbers, strings, constant, dictionary, fixed_lists, list_views, records, Valid, required, all_null, by_array, no_columns, column, array_type_of, content_at, rows_of, IsView, AreEndToEnd, IsSound}
use Rattle.vortex_arrays_model.specs.Canonical.{items_of, start_of, IsCanonical, counts}
use Rattle.vortex_arrays_model.proofs.PicksLemmas.{no_flag}
use Rattle.vortex_arrays_model.specs.Column.{IsColumn}

abbrev wholes : List ℕ → List Content
wholes xs = map (λ n. integer (pos n)) xs

abbrev listing : List ℕ → Content
listing xs = tuple (contents_from (wholes xs))

-- which rows are valid, by bits
abbrev where_true : List Bool → Valid
where_true bs = by_array (bools bs required)

abbrev naturals : List ℕ → Layout
naturals xs = numbers i32 (map pos xs) required

-- Lists that overlap: elements 1, 2, 3 with offsets 0, 1 and sizes 3, 2.
abbrev overlapping : Layout
overlapping = list_views (naturals (1 ∷ 2 ∷ 3 ∷ [])) (counts (0 ∷ 1 ∷ [])) (counts (3 ∷ 2 ∷ [])) false required

overlapping_rows : rows_of overlapping ≡ listing (1 ∷ 2 ∷ 3 ∷ []) ∷ listing (2 ∷ 3 ∷ []) ∷ []
overlapping_rows = refl

overlapping_kind : array_type_of overlapping ≡ list (integer_type i32 non_nullable) non_nullable
overlapping_kind = refl

overlapping_elements : flat_map items_of (rows_of overlapping) ≡ rows_of (naturals (1 ∷ 2 ∷ 3 ∷ 2 ∷ 3 ∷ []))
overlapping_elements = refl

overlapping_offset : (i : ℕ) → i < 2 → get_or (0 ∷ 3 ∷ []) i 0 ≡ start_of (rows_of overlapping) i
overlapping_offset zero l = refl
overlapping_offset (suc zero) l = refl
overlapping_offset (suc (suc i)) l = absurd (omega arith)

overlapping_size : (i : ℕ) → i < 2 → get_or (3 ∷ 2 ∷ []) i 0 ≡ length (items_of (get_or (rows_of overlapping) i null))
overlapping_size zero l = refl
overlapping_size (suc zero) l = refl
overlapping_size (suc (suc i)) l = absurd (omega arith)

overlapping_laid_out : IsCanonical (rows_of overlapping) (0 ∷ 3 ∷ []) (3 ∷ 2 ∷ []) (rows_of (naturals (1 ∷ 2 ∷ 3 ∷ 2 ∷ 3 ∷ [])))
overlapping_laid_out = record { many_offsets = refl; many_sizes = refl; offset = overlapping_offset; size = overlapping_size; end_to_end = refl }

overlapping_again : rows_of (list_views (naturals (1 ∷ 2 ∷ 3 ∷ 2 ∷ 3 ∷ [])) (counts (0 ∷ 3 ∷ [])) (counts (3 ∷ 2 ∷ [])) true required) ≡ rows_of overlapping
overlapping_again = refl

-- Elements 1, 2, 3, 4 with offsets 0, 1, 2 and sizes 1, 2, 2, the middle row null.
abbrev with_null : Layout
with_null = list_views (naturals (1 ∷ 2 ∷ 3 ∷ 4 ∷ [])) (counts (0 ∷ 1 ∷ 2 ∷ [])) (counts (1 ∷ 2 ∷ 2 ∷ [])) false (where_true (true ∷ false ∷ true ∷ []))

with_null_rows : rows_of with_null ≡ listing (1 ∷ []) ∷ null ∷ listing (3 ∷ 4 ∷ []) ∷ []
with_null_rows = refl

with_null_elements : flat_map items_of (rows_of with_null) ≡ rows_of (naturals (1 ∷ 3 ∷ 4 ∷ []))
with_null_elements = refl

with_null_offset : (i : ℕ) → i < 3 → get_or (0 ∷ 1 ∷ 1 ∷ []) i 0 ≡ start_of (rows_of with_null) i
with_null_offset zero l = refl
with_null_offset (suc zero) l = refl
with_null_offset (suc (suc zero)) l = refl
with_null_offset (suc (suc (suc i))) l = absurd (omega arith)

with_null_size : (i : ℕ) → i < 3 → get_or (1 ∷ 0 ∷ 2 ∷ []) i 0 ≡ length (items_of (get_or (rows_of with_null) i null))
with_null_size zero l = refl
with_null_size (suc zero) l = refl
with_null_size (suc (suc zero)) l = refl
with_null_size (suc (suc (suc i))) l = absurd (omega arith)

with_null_laid_out : IsCanonical (rows_of with_null) (0 ∷ 1 ∷ 1 ∷ []) (1 ∷ 0 ∷ 2 ∷ []) (rows_of (naturals (1 ∷ 3 ∷ 4 ∷ [])))
with_null_laid_out = record { many_offsets = refl; many_sizes = refl; offset = with_null_offset; size = with_null_size; end_to_end = refl }

with_null_again : rows_of (list_views (naturals (1 ∷ 3 ∷ 4 ∷ [])) (counts (0 ∷ 1 ∷ 1 ∷ [])) (counts (1 ∷ 0 ∷ 2 ∷ [])) true (where_true (true ∷ false ∷ true ∷ []))) ≡ rows_of with_null
with_null_again = refl

-- The parts fit together.
small : (n : ℕ) → n < 100 → InRange i32 (pos n)
small n l = record { from = omega (arith, ints); to = omega (arith, ints) }

small_count : (n : ℕ) → n < 100 → InRange u64 (pos n)
small_count n l = record { from = omega (arith, ints); to = omega (arith, ints) }

elements_fit : All (InRange i32) (pos 1 ∷ pos 2 ∷ pos 3 ∷ [])
elements_fit zero d l = small 1 (omega arith)
elements_fit (suc zero) d l = small 2 (omega arith)
elements_fit (suc (suc zero)) d l = small 3 (omega arith)
elements_fit (suc (suc (suc i))) d l = absurd (omega arith)

two_counts : (m n : ℕ) → m < 100 → n < 100 → All (InRange u64) (pos m ∷ pos n ∷ [])
two_counts m n a b zero d l = small_count m a
two_counts m n a b (suc zero) d l = small_count n b
two_counts m n a b (suc (suc i)) d l = absurd (omega arith)

views_fit : (i : ℕ) → i < 2 → IsView 3 (content_at (counts (0 ∷ 1 ∷ [])) i) (content_at (counts (3 ∷ 2 ∷ [])) i)
views_fit zero l = omega arith
views_fit (suc zero) l = omega arith
views_fit (suc (suc i)) l = absurd (omega arith)

overlapping_sound : IsSound overlapping
overlapping_sound = ((elements_fit, tt), (two_counts 0 1 (omega arith) (omega arith), tt), (two_counts 3 2 (omega arith) (omega arith), tt), tt, tt, refl, tt, views_fit, (λ t. no_flag t))

-- but the lists do not follow one another, so the flag can't be set
overlapping_unflagged : AreEndToEnd (counts (0 ∷ 1 ∷ [])) (counts (3 ∷ 2 ∷ [])) → ⊥
overlapping_unflagged h = let e : 1 ≡ 3 = h 0 (omega arith) in omega (arith, e)

-- A struct array p with a field q, of two rows, the first of which is null.
abbrev under_null : Layout
under_null = records (column (112 ∷ []) (records (column (113 ∷ []) (naturals (0 ∷ 7 ∷ [])) no_columns) 2 (where_true (false ∷ true ∷ []))) no_columns) 2 required

under_null_rows : rows_of under_null ≡ tuple (first null nothing) ∷ tuple (first (listing (7 ∷ [])) nothing) ∷ []
under_null_rows = refl

abbrev pushed : Layout
pushed = numbers i32 (pos 0 ∷ pos 7 ∷ []) (where_true (false ∷ true ∷ []))

pushed_rows : rows_of pushed ≡ null ∷ integer (pos 7) ∷ []
pushed_rows = refl

pushed_fits : All (InRange i32) (pos 0 ∷ pos 7 ∷ [])
pushed_fits zero d l = small 0 (omega arith)
pushed_fits (suc zero) d l = small 7 (omega arith)
pushed_fits (suc (suc i)) d l = absurd (omega arith)

pushed_is_column : IsColumn under_null ((112 ∷ []) ∷ (113 ∷ []) ∷ []) pushed
pushed_is_column = record { sound = (pushed_fits, (tt, refl, refl)); kind = refl; rows = refl }

-- A dictionary with a null code.
abbrev chosen : Layout
chosen = dictionary (numbers u8 (pos 1 ∷ pos 0 ∷ pos 0 ∷ []) (where_true (true ∷ false ∷ true ∷ []))) (numbers i64 (pos 10 ∷ negsuc 19 ∷ []) required) false

chosen_rows : rows_of chosen ≡ integer (negsuc 19) ∷ null ∷ integer (pos 10) ∷ []
chosen_rows = refl

chosen_kind : array_type_of chosen ≡ integer_type i64 nullable
chosen_kind = refl

-- Strings: one within its view, and one in a buffer.
abbrev short_view : List ℕ
short_view = 2 ∷ 0 ∷ 0 ∷ 0 ∷ 97 ∷ 98 ∷ 0 ∷ 0 ∷ 0 ∷ 0 ∷ 0 ∷ 0 ∷ 0 ∷ 0 ∷ 0 ∷ 0 ∷ []

abbrev long_view : List ℕ
long_view = 13 ∷ 0 ∷ 0 ∷ 0 ∷ 97 ∷ 98 ∷ 99 ∷ 100 ∷ 0 ∷ 0 ∷ 0 ∷ 0 ∷ 5 ∷ 0 ∷ 0 ∷ 0 ∷ []

abbrev letters : List ℕ
letters = 97 ∷ 98 ∷ 99 ∷ 100 ∷ 101 ∷ 102 ∷ 103 ∷ 104 ∷ 105 ∷ 106 ∷ 107 ∷ 108 ∷ 109 ∷ []

viewed_rows : rows_of (strings texts (short_view ∷ long_view ∷ short_view ∷ []) ((1 ∷ 2 ∷ 3 ∷ 4 ∷ 5 ∷ 97 ∷ 98 ∷ 99 ∷ 100 ∷ 101 ∷ 102 ∷ 103 ∷ 104 ∷ 105 ∷ 106 ∷ 107 ∷ 108 ∷ 109 ∷ []) ∷ []) (where_true (true ∷ true ∷ false ∷ []))) ≡ text (97 ∷ 98 ∷ []) ∷ text letters ∷ null ∷ []
viewed_rows = refl

viewed_bytes : rows_of (strings byte_strings (short_view ∷ []) [] required) ≡ byte_string (97 ∷ 98 ∷ []) ∷ []
viewed_bytes = refl

-- Fixed-size lists of no element, and of two.
no_elements : rows_of (fixed_lists (naturals []) 0 3 required) ≡ tuple nothing ∷ tuple nothing ∷ tuple nothing ∷ []
no_elements = refl

pairs : rows_of (fixed_lists (naturals (1 ∷ 2 ∷ 3 ∷ 4 ∷ [])) 2 2 (where_true (false ∷ true ∷ []))) ≡ null ∷ listing (3 ∷ 4 ∷ []) ∷ []
pairs = refl

-- All rows null, in an integer type and in the type of null.
nothing_valid : rows_of (numbers u8 (pos 1 ∷ pos 2 ∷ []) all_null) ≡ null ∷ null ∷ []
nothing_valid = refl

constant_nulls : rows_of (constant (utf8 nullable) raw_null 2) ≡ null ∷ null ∷ []
constant_nulls = refl
