-- Columns laid out by hints.
use Rattle.std.proofs.Common.{◌≡◌, ◌<◌, ◌+◌, ℕ, zero, suc, Bool, true, false, cond, Bor, List, [], ◌∷◌, ◌++◌, length, map, take, get_or, Option, None, refl, sym, ap, subst, ◌∙◌, arith, inl, inr}
use Rattle.std.specs.Cmp.{first_so}
use Rattle.std.specs.List.{All}
use Rattle.std.proofs.lemmas.Bool.{cases_eq}
use Rattle.std.proofs.lemmas.List.{length-map, map-append, take_more, get_or-map, get_or_append_left, get_or_push, length_push}
use Rattle.vortex_model.specs.LogicalType.{LogicalType, struct, field}
use Rattle.vortex_model.specs.Kept.{is_leaf, type_fault}
use Rattle.vortex_model.specs.Content.{Content, null, tuple, first, content_of, raw_null}
use Rattle.vortex_model.specs.Valid.{valid}
use Rattle.vortex_model.proofs.Lists.{same_item}
use Rattle.vortex_scalar_value.specs.View.{raw_in, raw_at, content_in, content_at as value_content}
use Rattle.vortex_scalar_value.specs.declared.scalar_value.ScalarValue.{ScalarValue}
use Rattle.vortex_table_schema.specs.declared.layout.Layout as hint
use Rattle.vortex_table_schema.specs.declared.layout.Layout.TheVariants as hints
use Rattle.vortex_arrays_view.specs.declared.error.ArrayError.{ArrayError}
use Rattle.vortex_arrays_view.specs.declared.error.ArrayError.TheVariants as error
use Rattle.vortex_arrays_model.specs.Layout.{Layout, records, Valid, Columns, no_columns, column, len_of, array_type_of, fields_of, nullability_by, content_at, is_valid, row_at, rows_of, IsSound, HaveLength}
use Rattle.vortex_arrays_model.specs.Parts.{columns_of}
use Rattle.vortex_arrays_model.proofs.PicksLemmas.{have_length, each_length}
use Rattle.vortex_arrays_model.proofs.RowsLemmas.{row_at_position, row_count, rows_by_position}
use Rattle.vortex_arrays_builder.specs.Fits.{fits_constant, fits_dictionary}
use Rattle.vortex_arrays_builder.specs.Types.{HasPlain, HavePlain, IsPlainLayout}
use Rattle.vortex_arrays_builder.specs.Plain.{IsPlainFault}
use Rattle.vortex_arrays_builder.specs.TooLarge.{AreTooLarge}
use Rattle.vortex_arrays_dictionary.specs.Distinct.{distinct}
use Rattle.vortex_arrays_builder.proofs.TooLargeLemmas.{contents}
use Rattle.vortex_arrays_builder.proofs.TypeLemmas.{held_plain}
use Rattle.vortex_arrays_dictionary.specs.Dictionary.{IsDictionaryOf}
use Rattle.vortex_table_layout.specs.Hinted.{hint_at, IsConstant, IsConstantWhere, IsDictionaryWhere, IsLaidOutBy, AreLaidOutBy, HasHintedColumns}
use Rattle.vortex_table_layout.specs.HintedAnew.{IsConstantOr, IsDictionaryOr, IsHinted, AreHinted, IsHintedArray, IsColumnFrom, AreColumnsFrom, IsArrayFrom}

abbrev Value : Type 0
Value = Option (Bor ScalarValue)

-- ---- parts that don't change

same_len : (a b : Layout) → rows_of b ≡ rows_of a → len_of b ≡ len_of a
same_len a b h = sym (row_count b) ∙ ap length h ∙ row_count a

same_content : (a b : Layout) → rows_of b ≡ rows_of a → (i : ℕ) → i < len_of a → content_at b i ≡ content_at a i
same_content a b h i l =
    sym (row_at_position b i null (subst (λ n. i < n) (sym (same_len a b h)) l)) ∙ ap (λ rs. get_or rs i null) h ∙ row_at_position a i null l

from_fields : (hs : List hint.Layout) (i : ℕ) (cs ds : Columns) → AreColumnsFrom hs i cs ds → fields_of ds ≡ fields_of cs
from_fields hs i no_columns no_columns h = refl
from_fields hs i (column x a cs) (column y b ds) h = λ t. field (h.0 t) (h.1.kind t) (from_fields hs (suc i) cs ds h.2 t)
from_fields hs i cs ds h = absurd h

from_row : (hs : List hint.Layout) (i : ℕ) (cs ds : Columns) (n : ℕ) → HaveLength cs n → AreColumnsFrom hs i cs ds → (p : ℕ) → p < n → row_at ds p ≡ row_at cs p
from_row hs i no_columns no_columns n fit h p l = refl
from_row hs i (column x a cs) (column y b ds) n fit h p l =
    λ t. first (same_content a b h.1.rows p (subst (λ m. p < m) (sym fit.1) l) t) (from_row hs (suc i) cs ds n fit.2 h.2 p l t)
from_row hs i cs ds n fit h p l = absurd h

pub from_type : (hs : List hint.Layout) (a b : Layout) → IsArrayFrom hs a b → array_type_of b ≡ array_type_of a
from_type hs (records cs n v) (records ds m w) h = λ t. struct (from_fields hs 0 cs ds h.2 t) (nullability_by (h.1 t))
from_type hs (records cs n v) b h = absurd h
from_type hs a b h = ap array_type_of h

from_len : (hs : List hint.Layout) (a b : Layout) → IsArrayFrom hs a b → len_of b ≡ len_of a
from_len hs (records cs n v) (records ds m w) h = h.0
from_len hs (records cs n v) b h = absurd h
from_len hs a b h = ap len_of h

from_content : (hs : List hint.Layout) (a b : Layout) → IsSound a → IsArrayFrom hs a b → (i : ℕ) → i < len_of a → content_at b i ≡ content_at a i
from_content hs (records cs n v) (records ds m w) sound h i l = λ t. cond (is_valid (h.1 t) i) (tuple (from_row hs 0 cs ds n sound.0 h.2 i l t)) null
from_content hs (records cs n v) b sound h i l = absurd h
from_content hs a b sound h i l = ap (λ x. content_at x i) h

pub from_rows : (hs : List hint.Layout) (a b : Layout) → IsSound a → IsArrayFrom hs a b → rows_of b ≡ rows_of a
from_rows hs a b sound h =
    let same : len_of b ≡ len_of a = from_len hs a b h in
    rows_by_position b (rows_of a) (row_count a ∙ sym same) (λ i l.
    let within : i < len_of a = subst (λ n. i < n) same l in
    row_at_position a i null within ∙ sym (from_content hs a b sound h i within))

-- ---- how it is laid out

from_hints : (hs : List hint.Layout) (i : ℕ) (cs ds : Columns) → AreColumnsFrom hs i cs ds → AreHinted hs i cs ds
from_hints hs i no_columns no_columns h = tt
from_hints hs i (column x a cs) (column y b ds) h = (h.0, h.1.layout, from_hints hs (suc i) cs ds h.2)
from_hints hs i cs ds h = absurd h

pub from_layout : (hs : List hint.Layout) (a b : Layout) → IsArrayFrom hs a b → IsHintedArray hs a b
from_layout hs (records cs n v) (records ds m w) h = (h.0, h.1, from_hints hs 0 cs ds h.2)
from_layout hs (records cs n v) b h = absurd h
from_layout hs a b h = h

constant_where : (f : Bool) (a b : Layout) → IsPlainLayout a → IsConstantOr f a b → IsConstantWhere f b
constant_where true a b p h = h
constant_where false a b p h = subst IsPlainLayout (sym h) p

dictionary_where : (f : Bool) (a b : Layout) → IsPlainLayout a → IsDictionaryOr f a b → IsDictionaryWhere f (array_type_of a) (rows_of a) b
dictionary_where true a b p (inl h) = inl h
dictionary_where true a b p (inr h) = inr (h.0, subst IsPlainLayout (sym h.1) p)
dictionary_where false a b p h = subst IsPlainLayout (sym h) p

hinted_plain : (h : hint.Layout) (a b : Layout) → IsPlainLayout a → array_type_of b ≡ array_type_of a → rows_of b ≡ rows_of a → IsHinted h a b → IsLaidOutBy h (rows_of b) b
hinted_plain hints.Plain a b p k r h = subst IsPlainLayout (sym h) p
hinted_plain hints.Dictionary a b p k r h =
    subst (λ t. IsDictionaryWhere (fits_dictionary t (rows_of b)) t (rows_of b) b) (sym k)
    (subst (λ rs. IsDictionaryWhere (fits_dictionary (array_type_of a) rs) (array_type_of a) rs b) (sym r) (dictionary_where (fits_dictionary (array_type_of a) (rows_of a)) a b p h))
hinted_plain hints.Constant a b p k r h = subst (λ rs. IsConstantWhere (fits_constant rs) b) (sym r) (constant_where (fits_constant (rows_of a)) a b p h)

plain_columns : (hs : List hint.Layout) (i : ℕ) (cs ds : Columns) → AreLaidOutBy [] i cs → AreColumnsFrom hs i cs ds → AreLaidOutBy hs i ds
plain_columns hs i no_columns no_columns p h = tt
plain_columns hs i (column x a cs) (column y b ds) p h = (hinted_plain (hint_at hs i) a b p.0 h.1.kind h.1.rows h.1.layout, plain_columns hs (suc i) cs ds p.1 h.2)
plain_columns hs i cs ds p h = absurd h

pub from_plain : (hs : List hint.Layout) (a b : Layout) → IsArrayFrom hs a b → HasHintedColumns [] a → HasHintedColumns hs b
from_plain hs (records cs n v) (records ds m w) h p = plain_columns hs 0 cs ds p h.2
from_plain hs (records cs n v) b h p = absurd h
from_plain hs a b h p = absurd p

-- ---- without hints

unhinted_columns : (i : ℕ) (cs ds : Columns) → AreHinted [] i cs ds → ds ≡ cs
unhinted_columns i no_columns no_columns h = refl
unhinted_columns i (column x a cs) (column y b ds) h = λ t. column (h.0 t) (h.1 t) (unhinted_columns (suc i) cs ds h.2 t)
unhinted_columns i cs ds h = absurd h

pub unhinted : (a b : Layout) → IsHintedArray [] a b → b ≡ a
unhinted (records cs n v) (records ds m w) h = λ t. records (unhinted_columns 0 cs ds h.2 t) (h.0 t) (h.1 t)
unhinted (records cs n v) b h = absurd h
unhinted a b h = h

same_columns : (i : ℕ) (cs : Columns) (n : ℕ) → HaveLength cs n → AreColumnsFrom [] i cs cs
same_columns i no_columns n h = tt
same_columns i (column x a cs) n h = (refl, record { sound = h.0; kind = refl; rows = refl; layout = refl }, same_columns (suc i) cs n h.2)

same_array_from : (a : Layout) → IsSound a → IsArrayFrom [] a a
same_array_from (records cs n v) h = (refl, refl, same_columns 0 cs n h.0)
same_array_from a h = refl

pub untouched : (hs : List hint.Layout) (a b : Layout) → length hs ≡ 0 → IsSound a → b ≡ a → IsArrayFrom hs a b
untouched [] a b e h same = subst (IsArrayFrom [] a) (sym same) (same_array_from a h)
untouched (g ∷ hs) a b e h same = absurd (omega (arith, e))

pub ruleset whole = (from_type, from_rows, from_layout, from_plain)

-- ---- struct arrays

pub records_from : (hs : List hint.Layout) (a : Layout) (cs ds : Columns) (n : ℕ) (v : Valid) → a ≡ records cs n v → AreColumnsFrom hs 0 cs ds → IsArrayFrom hs a (records ds n v)
records_from hs a cs ds n v e h = subst (λ x. IsArrayFrom hs x (records ds n v)) (sym e) (refl, refl, h)

pub records_plain : (a : Layout) (cs : Columns) (n : ℕ) (v : Valid) → type_fault (array_type_of a) ≡ None → a ≡ records cs n v → HavePlain (fields_of cs)
records_plain a cs n v h e = subst (λ x. HasPlain (array_type_of x)) e (held_plain (array_type_of a) h)

pub ruleset layouts = (records_from, records_plain, untouched)

-- ---- the columns, one after another

-- the first n of the columns are laid out by their hints
pub record FirstFrom (hs : List hint.Layout) (fs : List Layout) (n : ℕ) (xs : List Layout) : Type 0 where
  pub many : length xs ≡ n
  pub each : (k : ℕ) (d : Layout) → k < n → IsColumnFrom (hint_at hs k) (get_or fs k d) (get_or xs k d)

pub first_none : (hs : List hint.Layout) (fs : List Layout) (xs : List Layout) → length xs ≡ 0 → FirstFrom hs fs 0 xs
first_none hs fs xs e = record { many = e; each = λ k d l. absurd (omega arith) }

pub first_more : (hs : List hint.Layout) (fs : List Layout) (n : ℕ) (xs ys : List Layout) (a b : Layout) → FirstFrom hs fs n xs → n < length fs → a ≡ get_or fs n a → IsColumnFrom (hint_at hs n) a b → ys ≡ xs ++ b ∷ [] → FirstFrom hs fs (n + 1) ys
first_more hs fs n xs ys a b h l e c made = subst (FirstFrom hs fs (n + 1)) (sym made) (record {
  many = length_push xs b ∙ ap (λ k. k + 1) h.many;
  each = λ k d q. elim (cases_eq k n) [
    | inl same ↦
        let here : a ≡ get_or fs k d = same_item fs k a d (subst (λ i. i < length fs) (sym same) l) (subst (λ i. a ≡ get_or fs i a) (sym same) e) in
        let there : b ≡ get_or (xs ++ b ∷ []) k d = sym (get_or_push xs b d k (h.many ∙ sym same)) in
        subst (λ x. IsColumnFrom (hint_at hs k) x (get_or (xs ++ b ∷ []) k d)) here (subst (IsColumnFrom (hint_at hs k) a) there (subst (λ i. IsColumnFrom (hint_at hs i) a b) (sym same) c))
    | inr other ↦
        let before : k < n = omega (arith, other) in
        subst (IsColumnFrom (hint_at hs k) (get_or fs k d)) (sym (get_or_append_left xs (b ∷ []) d k (let m = h.many in omega (arith, m)))) (h.each k d before)
  ];
})

all_from : (hs : List hint.Layout) (i : ℕ) (ns : List (List ℕ)) (fs xs : List Layout) → length xs ≡ length fs → ((k : ℕ) (d : Layout) → k < length fs → IsColumnFrom (hint_at hs (i + k)) (get_or fs k d) (get_or xs k d)) → AreColumnsFrom hs i (columns_of ns fs) (columns_of ns xs)
all_from hs i ns [] (x ∷ xs) e h = absurd (omega (arith, e))
all_from hs i ns (a ∷ fs) [] e h = absurd (omega (arith, e))
all_from hs i [] [] [] e h = tt
all_from hs i (y ∷ ns) [] [] e h = tt
all_from hs i [] (a ∷ fs) (x ∷ xs) e h = (
  refl,
  subst (λ j. IsColumnFrom (hint_at hs j) a x) (let s : i + 0 ≡ i = omega arith in s) (h 0 a (omega arith)),
  all_from hs (suc i) [] fs xs (omega (arith, e)) (λ k d l. subst (λ j. IsColumnFrom (hint_at hs j) (get_or fs k d) (get_or xs k d)) (let s : i + suc k ≡ suc i + k = omega arith in s) (h (suc k) d (omega (arith, l)))),
)
all_from hs i (y ∷ ns) (a ∷ fs) (x ∷ xs) e h = (
  refl,
  subst (λ j. IsColumnFrom (hint_at hs j) a x) (let s : i + 0 ≡ i = omega arith in s) (h 0 a (omega arith)),
  all_from hs (suc i) ns fs xs (omega (arith, e)) (λ k d l. subst (λ j. IsColumnFrom (hint_at hs j) (get_or fs k d) (get_or xs k d)) (let s : i + suc k ≡ suc i + k = omega arith in s) (h (suc k) d (omega (arith, l)))),
)

pub first_all : (hs : List hint.Layout) (ns : List (List ℕ)) (fs : List Layout) (n : ℕ) (xs : List Layout) → FirstFrom hs fs n xs → n ≡ length fs → AreColumnsFrom hs 0 (columns_of ns fs) (columns_of ns xs)
first_all hs ns fs n xs h e = all_from hs 0 ns fs xs (h.many ∙ e) (λ k d l. subst (λ i. IsColumnFrom (hint_at hs i) (get_or fs k d) (get_or xs k d)) (let s : k ≡ 0 + k = omega arith in s) (h.each k d (omega (arith, l, e))))

pub first_fit : (hs : List hint.Layout) (ns : List (List ℕ)) (fs : List Layout) (n m : ℕ) (xs : List Layout) → FirstFrom hs fs n xs → n ≡ length fs → HaveLength (columns_of ns fs) m → HaveLength (columns_of ns xs) m
first_fit hs ns fs n m xs h e fit =
    let many : length xs ≡ length fs = h.many ∙ e in
    have_length ns xs m
    (λ k d l. (h.each k d (omega (arith, l, many, e))).sound)
    (λ k d l. same_len (get_or fs k d) (get_or xs k d) (h.each k d (omega (arith, l, many, e))).rows ∙ each_length ns fs m k d fit (omega (arith, l, many)))

pub first_many : (hs : List hint.Layout) (fs : List Layout) (n : ℕ) (xs : List Layout) → FirstFrom hs fs n xs → n ≡ length fs → length xs ≡ length fs
first_many hs fs n xs h e = h.many ∙ e

pub field_plain : (ns : List (List ℕ)) (fs : List Layout) (k : ℕ) (a : Layout) → HavePlain (fields_of (columns_of ns fs)) → k < length fs → a ≡ get_or fs k a → HasPlain (array_type_of a)
field_plain ns [] k a h l e = absurd (omega arith)
field_plain [] (b ∷ fs) zero a h l e = subst (λ x. HasPlain (array_type_of x)) (sym e) h.0
field_plain (y ∷ ns) (b ∷ fs) zero a h l e = subst (λ x. HasPlain (array_type_of x)) (sym e) h.0
field_plain [] (b ∷ fs) (suc k) a h l e = field_plain [] fs k a h.1 (omega (arith, l)) e
field_plain (y ∷ ns) (b ∷ fs) (suc k) a h l e = field_plain ns fs k a h.1 (omega (arith, l)) e

pub ruleset columns = (first_none, first_more, first_all, first_fit, first_many, field_plain)

-- ---- one column

pub column_from : (h : hint.Layout) (a b : Layout) → IsSound b → array_type_of b ≡ array_type_of a → rows_of b ≡ rows_of a → IsHinted h a b → IsColumnFrom h a b
column_from h a b s k r l = record { sound = s; kind = k; rows = r; layout = l }

pub ruleset one_column = (column_from)

pub as_hinted : (h g : hint.Layout) (a b : Layout) → h ≡ g → IsHinted g a b → IsHinted h a b
as_hinted h g a b e t = subst (λ x. IsHinted x a b) (sym e) t

pub by_plain : (h : hint.Layout) (a b : Layout) → h ≡ hints.Plain → b ≡ a → IsHinted h a b
by_plain h a b e t = as_hinted h hints.Plain a b e t

pub ruleset by_hint = (as_hinted, by_plain)

-- ---- the values of a column

pub borrowed_more : (rows : List (Option ScalarValue)) (i : ℕ) (row : Option ScalarValue) (v : Value) (vs : List Value) → map raw_at vs ≡ map raw_in (take i rows) → i < length rows → row ≡ get_or rows i row → raw_at v ≡ raw_in row → map raw_at (vs ++ v ∷ []) ≡ map raw_in (take (i + 1) rows)
borrowed_more rows i row v vs h l e p =
    map-append raw_at vs (v ∷ []) ∙ (λ t. h t ++ p t ∷ [])
    ∙ sym (ap (map raw_in) (take_more rows i row l ∙ ap (λ y. take i rows ++ y ∷ []) (sym e)) ∙ map-append raw_in (take i rows) (row ∷ []))

pub ruleset values = (borrowed_more)

pub contents_in : (rows : List (Option ScalarValue)) → map content_of (map raw_in rows) ≡ map content_in rows
contents_in [] = refl
contents_in (row ∷ rows) = ap (λ cs. content_in row ∷ cs) (contents_in rows)

pub column_rows : (a : Layout) (rows : List (Option ScalarValue)) (vs : List Value) → map raw_at vs ≡ map raw_in rows → map content_in rows ≡ rows_of a → map value_content vs ≡ rows_of a
column_rows a rows vs h e = sym (contents vs) ∙ ap (map content_of) h ∙ contents_in rows ∙ e

all_unmapped : (k : LogicalType) (vs : List Value) → All (λ r. valid k r ≡ true) (map raw_at vs) → All (λ value. valid k (raw_at value) ≡ true) vs
all_unmapped k vs h = λ i d l. sym (ap (valid k) (get_or-map raw_at vs i d raw_null l)) ∙ h i raw_null (subst (λ n. i < n) (sym (length-map vs raw_at)) l)

pub column_valid : (k : LogicalType) (rows : List (Option ScalarValue)) (vs : List Value) → map raw_at vs ≡ map raw_in rows → All (λ row. valid k (raw_in row) ≡ true) rows → All (λ value. valid k (raw_at value) ≡ true) vs
column_valid k rows vs h v = all_unmapped k vs (subst (All (λ r. valid k r ≡ true)) (sym h) (λ i d b.
    let within : i < length rows = subst (λ m. i < m) (length-map rows raw_in) b in
    subst (λ r. valid k r ≡ true) (sym (get_or-map raw_in rows i None d within)) (v i None within)))

pub constant_fits : (a b : Layout) (cs : List Content) → cs ≡ rows_of a → fits_constant cs ≡ true → IsConstant b → IsHinted hints.Constant a b
constant_fits a b cs e f c = subst (λ t. IsConstantOr t a b) (sym f ∙ ap fits_constant e) c

pub constant_unfit : (a b : Layout) (cs : List Content) → cs ≡ rows_of a → fits_constant cs ≡ false → b ≡ a → IsHinted hints.Constant a b
constant_unfit a b cs e f c = subst (λ t. IsConstantOr t a b) (sym f ∙ ap fits_constant e) c

pub ruleset constants_of_values = (column_rows, constant_fits, constant_unfit)

pub constant_told : (a b : Layout) (f : Bool) → f ≡ fits_constant (rows_of a) → f ≡ true → IsConstant b → IsHinted hints.Constant a b
constant_told a b f e t c = constant_fits a b (rows_of a) refl (sym e ∙ t) c

pub unfit_told : (a b : Layout) (f : Bool) → f ≡ fits_constant (rows_of a) → f ≡ false → b ≡ a → IsHinted hints.Constant a b
unfit_told a b f e t c = constant_unfit a b (rows_of a) refl (sym e ∙ t) c

pub ruleset constants = (constant_told, unfit_told)

pub dictionary_fits : (a b : Layout) → fits_dictionary (array_type_of a) (rows_of a) ≡ true → IsDictionaryOf (rows_of a) b → IsHinted hints.Dictionary a b
dictionary_fits a b f d = subst (λ t. IsDictionaryOr t a b) (sym f) (inl d)

pub dictionary_unfit : (a b : Layout) → fits_dictionary (array_type_of a) (rows_of a) ≡ false → b ≡ a → IsHinted hints.Dictionary a b
dictionary_unfit a b f c = subst (λ t. IsDictionaryOr t a b) (sym f) c

pub ruleset dictionaries = (dictionary_fits, dictionary_unfit)

-- a dictionary fits only leaves
pub of_leaves : (k : LogicalType) (cs : List Content) → fits_dictionary k cs ≡ true → is_leaf k ≡ true
of_leaves k cs h = first_so (is_leaf k) _ h

-- any fault but that of memory is that the rows are too large
rows_fault : (e : ArrayError) (k : LogicalType) (cs : List Content) → IsPlainFault e k cs → (e ≡ error.Memory → ⊥) → AreTooLarge k cs
rows_fault error.Memory k cs h n = absurd (n refl)
rows_fault error.Total k cs h n = h
rows_fault e k cs h n = absurd h

pub dictionary_of_rows : (a b : Layout) (cs : List Content) → cs ≡ rows_of a → fits_dictionary (array_type_of a) (rows_of a) ≡ true → IsDictionaryOf cs b → IsHinted hints.Dictionary a b
dictionary_of_rows a b cs e f d = dictionary_fits a b f (subst (λ rs. IsDictionaryOf rs b) e d)

pub dictionary_too_large : (x : ArrayError) (a b : Layout) (vs : List Value) → map value_content vs ≡ rows_of a → fits_dictionary (array_type_of a) (rows_of a) ≡ true → IsPlainFault x (array_type_of a) (distinct (map value_content vs)) → (x ≡ error.Memory → ⊥) → b ≡ a → IsHinted hints.Dictionary a b
dictionary_too_large x a b vs e f h n c =
    subst (λ t. IsDictionaryOr t a b) (sym f)
    (inr (rows_fault x (array_type_of a) (distinct (rows_of a)) (subst (λ cs. IsPlainFault x (array_type_of a) (distinct cs)) e h) n, c))

pub ruleset dictionaries_of_values = (column_rows, column_valid, of_leaves, dictionary_of_rows, dictionary_too_large)
