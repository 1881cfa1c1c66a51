-- The rows of an array read one by one, and rows of values as an array.
use Rattle.std.proofs.Common.{◌≡◌, ◌<◌, ◌≤◌, ◌+◌, ℕ, suc, true, Bor, List, [], ◌∷◌, ◌++◌, length, map, take, get_or, Option, Some, None, refl, sym, ap, subst, ◌∙◌}
use Rattle.std.specs.List.{All, list_all}
use Rattle.std.proofs.lemmas.List.{map-append, map_more, take_more, take_all}
use Rattle.std.proofs.lemmas.List.Elements.{All-nil, All-append, All-cons}
use Rattle.std.proofs.lemmas.List.Folds.{list_all-map}
use Rattle.vortex_model.specs.Content.{content_of}
use Rattle.vortex_model.specs.Kept.{type_fault}
use Rattle.vortex_model.specs.Valid.{valid}
use Rattle.vortex_model.specs.LogicalType.{LogicalType}
use Rattle.vortex_scalar_value.specs.View.{raw_of, raw_in, raw_at, content_in, content_at as value_content}
use Rattle.vortex_scalar_value.specs.declared.scalar_value.ScalarValue.{ScalarValue}
use Rattle.vortex_arrays_model.specs.Layout.{Layout, bools, numbers, strings, fixed_lists, list_views, records, texts, byte_strings, Columns, no_columns, column, len_of, array_type_of, content_at, rows_of}
use Rattle.vortex_arrays_model.proofs.RowsLemmas.{row_at_position, row_count}
use Rattle.vortex_arrays_builder.specs.TooLarge.{AreTooLarge}
use Rattle.vortex_arrays_builder.specs.Types.{HasPlain, IsPlainLayout, ArePlainLayouts}
use Rattle.vortex_arrays_builder.proofs.TooLargeLemmas.{contents}
use Rattle.vortex_arrays_builder.proofs.TypeLemmas.{held_plain}
use Rattle.vortex_table_schema.specs.Rows.{row_content}
use Rattle.vortex_table_chunk.proofs.TypedRows.{list_all_at}
use Rattle.vortex_table_layout.specs.Hinted.{AreLaidOutBy, HasHintedColumns}

pub read_more : (a : Layout) (i : ℕ) (xs ys : List (Option ScalarValue)) (x : Option ScalarValue) → map content_in xs ≡ take i (rows_of a) → i < len_of a → content_in x ≡ content_at a i → ys ≡ xs ++ x ∷ [] → map content_in ys ≡ take (i + 1) (rows_of a)
read_more a i xs ys x h l e made =
    let within : i < length (rows_of a) = subst (λ n. i < n) (sym (row_count a)) l in
    ap (map content_in) made ∙ map-append content_in xs (x ∷ [])
    ∙ (λ t. h t ++ (e ∙ sym (row_at_position a i (content_in x) l)) t ∷ [])
    ∙ sym (take_more (rows_of a) i (content_in x) within)

pub read_all : (a : Layout) (n : ℕ) → len_of a ≤ n → take n (rows_of a) ≡ rows_of a
read_all a n l = take_all n (rows_of a) (subst (λ m. m ≤ n) (sym (row_count a)) l)

pub valid_none : (k : LogicalType) → All (λ row. valid k (raw_in row) ≡ true) []
valid_none k = All-nil (λ row. valid k (raw_in row) ≡ true)

pub valid_more : (k : LogicalType) (xs ys : List (Option ScalarValue)) (x : Option ScalarValue) → All (λ row. valid k (raw_in row) ≡ true) xs → valid k (raw_in x) ≡ true → ys ≡ xs ++ x ∷ [] → All (λ row. valid k (raw_in row) ≡ true) ys
valid_more k xs ys x h e made = subst (All (λ row. valid k (raw_in row) ≡ true)) (sym made) (All-append (λ row. valid k (raw_in row) ≡ true) xs (x ∷ []) h (All-cons (λ row. valid k (raw_in row) ≡ true) x [] e (valid_none k)))

pub ruleset rows = (read_more, read_all, valid_none, valid_more)

-- ---- rows of values

abbrev Values : Type 0
Values = List (Option (Bor ScalarValue))

-- one more value
pub one_borrowed : (rows : List ScalarValue) (i : ℕ) (row : Bor ScalarValue) (old new : Values) → i < length rows → row.now ≡ get_or rows i row.now → new ≡ old ++ Some row ∷ [] →
    map raw_at old ≡ map raw_of (take i rows) → map raw_at new ≡ map raw_of (take (i + 1) rows)
one_borrowed rows i row old new inside is pushed h =
    ap (map raw_at) pushed ∙ map-append raw_at old (Some row ∷ []) ∙ ap (λ l. l ++ raw_of row.now ∷ []) h
    ∙ sym (map_more raw_of rows i row.now inside ∙ ap (λ r. map raw_of (take i rows) ++ raw_of r ∷ []) (sym is))

pub ruleset lent = (one_borrowed)

pub kept_plain : (k : LogicalType) → type_fault k ≡ None → HasPlain k
kept_plain k kept = held_plain k kept

row_contents : (rows : List ScalarValue) → map content_of (map raw_of rows) ≡ map row_content rows
row_contents [] = refl
row_contents (row ∷ rows) = ap (λ cs. row_content row ∷ cs) (row_contents rows)

module _ (values : Values) (rows : List ScalarValue) (e : map raw_at values ≡ map raw_of rows) where
  pub all_valid : (k : LogicalType) → list_all (λ row. valid k (raw_of row)) rows ≡ true → All (λ value. valid k (raw_at value) ≡ true) values
  all_valid k h i d inside =
      list_all_at (λ v. valid k (raw_at v)) values i d
      (sym (list_all-map (valid k) raw_at values) ∙ ap (list_all (valid k)) e ∙ list_all-map (valid k) raw_of rows ∙ h) inside

  pub same_rows : map value_content values ≡ map row_content rows
  same_rows = sym (contents values) ∙ ap (map content_of) e ∙ row_contents rows

  pub rows_made : (a : Layout) → rows_of a ≡ map value_content values → rows_of a ≡ map row_content rows
  rows_made a made = made ∙ same_rows

  pub rows_fit : (k : LogicalType) → ¬ AreTooLarge k (map value_content values) → ¬ AreTooLarge k (map row_content rows)
  rows_fit k fits = subst (λ cs. ¬ AreTooLarge k cs) same_rows fits

-- ---- a plain array of a type that a table can hold

plain_columns : (i : ℕ) (cs : Columns) → ArePlainLayouts cs → AreLaidOutBy [] i cs
plain_columns i no_columns h = tt
plain_columns i (column x a cs) h = (h.0, plain_columns (suc i) cs h.1)

plain_records : (a : Layout) → type_fault (array_type_of a) ≡ None → IsPlainLayout a → HasHintedColumns [] a
plain_records (records cs n v) h p = plain_columns 0 cs p
plain_records (bools bs v) h p = absurd (cc h)
plain_records (numbers k zs v) h p = absurd (cc h)
plain_records (strings texts vs bs v) h p = absurd (cc h)
plain_records (strings byte_strings vs bs v) h p = absurd (cc h)
plain_records (fixed_lists e s n v) h p = absurd (cc h)
plain_records (list_views e o s f v) h p = absurd (cc h)
plain_records a h p = absurd p

pub plain_hinted : (k : LogicalType) (a : Layout) → type_fault k ≡ None → array_type_of a ≡ k → IsPlainLayout a → HasHintedColumns [] a
plain_hinted k a kept e p = plain_records a (subst (λ t. type_fault t ≡ None) (sym e) kept) p

pub ruleset plain = (kept_plain, all_valid, rows_made, rows_fit, plain_hinted)
