-- Which rows are null, by a validity.
use Rattle.std.proofs.Common.{◌≡◌, refl, sym, ap, ◌∙◌, ℕ, zero, suc, ℤ, Bool, true, false, not, ◌&&◌, cond, pos, List, [], ◌∷◌, length, map, replicate, take, ◌*◌, Option}
use Rattle.std.specs.Prelude.{slice_index_or}
use Rattle.std.specs.List.{range_with_len, zip}
use Rattle.std.proofs.lemmas.Simd.{splat_is_map}
use Rattle.std.proofs.lemmas.List.FromFn.{length-range_with_len}
use Rattle.std.proofs.Math.Bool.{not-not}
use Rattle.vortex_model.specs.Content.{Content, null, boolean, integer, text, byte_string, tuple, is_null}
use Rattle.vortex_arrays_view.specs.Views.{value_of}
use Rattle.vortex_arrays_model.specs.Layout.{Layout, Valid, bools, numbers, strings, fixed_lists, list_views, records, Columns, Strings, string_content, content_at, rows_of, len_of, is_valid, span, number_in, row_at}
use Rattle.vortex_model.specs.LogicalType.{IntKind}
use Rattle.vortex_model.proofs.Lists.{map_twice}
use Rattle.vortex_arrays_model.proofs.RowsLemmas.{string_there}
use Rattle.vortex_stats_mask.specs.Columns.{values_of, contents_of, shown, kept}
use Rattle.vortex_stats_mask.specs.Integers.{integers_in}
use Rattle.vortex_stats_mask.specs.Wanted.{is_wanted}
use Rattle.vortex_stats_mask.specs.declared.column.Items.{Items}
use Rattle.vortex_stats_mask.specs.declared.column.Items.TheVariants.{Bools, Numbers, Texts, Binaries}
use Rattle.vortex_stats_mask.proofs.Shown.{tested_as_shown}

present : (b : Bool) (c : Content) → is_null c ≡ false → not (is_null (cond b c null)) ≡ b
present true c h = ap not h
present false c h = refl

-- every row is valid
pub all_present : (v : Valid) (n : ℕ) → ((i : ℕ) → is_valid v i ≡ true) → replicate n true ≡ map (is_valid v) (range_with_len 0 n)
all_present v n h = splat_is_map (range_with_len 0 n) n true (length-range_with_len 0 n) ∙ (λ j. map (λ i. sym (h i) j) (range_with_len 0 n))

told : (a : Layout) (v : Valid) → ((i : ℕ) → not (is_null (content_at a i)) ≡ is_valid v i) → map (is_valid v) (range_with_len 0 (len_of a)) ≡ map (λ c. not (is_null c)) (rows_of a)
told a v h = (λ j. map (λ i. sym (h i) j) (range_with_len 0 (len_of a))) ∙ sym (map_twice (λ c. not (is_null c)) (content_at a) (range_with_len 0 (len_of a)))

pub bools_told : (bs : List Bool) (v : Valid) → map (is_valid v) (range_with_len 0 (length bs)) ≡ map (λ c. not (is_null c)) (rows_of (bools bs v))
bools_told bs v = told (bools bs v) v (λ i. present (is_valid v i) (boolean (slice_index_or bs i false)) refl)

pub numbers_told : (k : IntKind) (zs : List ℤ) (v : Valid) → map (is_valid v) (range_with_len 0 (length zs)) ≡ map (λ c. not (is_null c)) (rows_of (numbers k zs v))
numbers_told k zs v = told (numbers k zs v) v (λ i. present (is_valid v i) (integer (slice_index_or zs i (pos 0))) refl)

pub strings_told : (s : Strings) (vs bs : List (List ℕ)) (v : Valid) → map (is_valid v) (range_with_len 0 (length vs)) ≡ map (λ c. not (is_null c)) (rows_of (strings s vs bs v))
strings_told s vs bs v = told (strings s vs bs v) v (λ i. let x = value_of (slice_index_or vs i []) bs in present (is_valid v i) (string_content s x) (string_there s x))

pub fixed_lists_told : (e : Layout) (s n : ℕ) (v : Valid) → map (is_valid v) (range_with_len 0 n) ≡ map (λ c. not (is_null c)) (rows_of (fixed_lists e s n v))
fixed_lists_told e s n v = told (fixed_lists e s n v) v (λ i. present (is_valid v i) (tuple (span (λ j. content_at e j) (i * s) s)) refl)

pub list_views_told : (e o s : Layout) (f : Bool) (v : Valid) → map (is_valid v) (range_with_len 0 (len_of o)) ≡ map (λ c. not (is_null c)) (rows_of (list_views e o s f v))
list_views_told e o s f v = told (list_views e o s f v) v (λ i. present (is_valid v i) (tuple (span (λ j. content_at e j) (number_in (content_at o i)) (number_in (content_at s i)))) refl)

pub records_told : (cs : Columns) (n : ℕ) (v : Valid) → map (is_valid v) (range_with_len 0 n) ≡ map (λ c. not (is_null c)) (rows_of (records cs n v))
records_told cs n v = told (records cs n v) v (λ i. present (is_valid v i) (tuple (row_at cs i)) refl)

pub ruleset layouts = (bools_told, numbers_told, strings_told, fixed_lists_told, list_views_told, records_told)

-- a look at each row
pub looked : (a : Layout) → map (λ i. not (is_null (content_at a i))) (range_with_len 0 (len_of a)) ≡ map (λ c. not (is_null c)) (rows_of a)
looked a = sym (map_twice (λ c. not (is_null c)) (content_at a) (range_with_len 0 (len_of a)))

-- the rows that are not present
pub absent : (cs : List Content) → map not (map (λ c. not (is_null c)) cs) ≡ map (λ c. is_wanted true (boolean (is_null c))) cs
absent cs = map_twice not (λ c. not (is_null c)) cs ∙ (λ i. map (λ c. not-not (is_null c) i) cs)

-- ---- lent columns, of which no value is null

values_present : {A : Type 0} (g : A → Content) → ((a : A) → is_null (g a) ≡ false) → (xs : List A) → map (λ c. not (is_null c)) (map g xs) ≡ replicate (length (map g xs)) true
values_present g h [] = refl
values_present g h (x ∷ xs) = λ i. not (h x i) ∷ values_present g h xs i

pub items_present : (items : Items) → map (λ c. not (is_null c)) (contents_of items) ≡ replicate (length (contents_of items)) true
items_present (Bools bs) = values_present boolean (λ b. refl) bs.now
items_present (Numbers ns) = values_present integer (λ z. refl) (integers_in ns)
items_present (Texts s) = values_present text (λ t. refl) (values_of s)
items_present (Binaries s) = values_present byte_string (λ t. refl) (values_of s)

pub shown_present : (v : Option (List Bool)) (items : Items) → map (λ c. not (is_null c)) (shown v (contents_of items)) ≡ kept v (replicate (length (contents_of items)) true)
shown_present v items = tested_as_shown (λ c. not (is_null c)) refl v (contents_of items) ∙ ap (kept v) (items_present items)

and_true : (b : Bool) → b ≡ (b && true)
and_true true = refl
and_true false = refl

pub cut_by : (n : ℕ) (bs : List Bool) → take n bs ≡ map (λ p. p.0 && p.1) (zip bs (replicate n true))
cut_by zero [] = refl
cut_by zero (b ∷ bs) = refl
cut_by (suc n) [] = refl
cut_by (suc n) (b ∷ bs) = λ i. and_true b i ∷ cut_by n bs i
