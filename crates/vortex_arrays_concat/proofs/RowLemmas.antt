-- Rows of arrays end to end.
use Rattle.std.proofs.Common.{◌≡◌, ◌<◌, ◌≤◌, ◌+◌, ◌^◌, ◌↔◌, ℕ, true, false, IsTrue, None, List, [], ◌∷◌, ◌++◌, length, map, take, drop, set, get_or, Option, Bor, inl, inr, refl, sym, ap, subst, ◌∙◌, add-one, arith}
use Rattle.std.specs.List.{All}
use Rattle.std.proofs.lemmas.List.{length-map, length-set, map-append, get_or-map, take_more, take_more_set, take_all, drop_all, append-nil, map-id}
use Rattle.std.proofs.lemmas.List.Concat.{flat_map-append}
use Rattle.std.proofs.lemmas.List.Sums.{sum_by-cons}
use Rattle.std.proofs.lemmas.List.Elements.{All-nil, All-append, All-cons}
use Rattle.std.proofs.Math.Seq.{drop-cons}
use Rattle.vortex_model.specs.LogicalType.{LogicalType}
use Rattle.vortex_model.specs.Content.{Content, content_of}
use Rattle.vortex_model.specs.Valid.{valid}
use Rattle.vortex_dtype_core.specs.Parts.{is_struct_type}
use Rattle.vortex_scalar_value.specs.View.{raw_in, raw_at, content_in, content_at as value_content}
use Rattle.vortex_scalar_value.specs.declared.scalar_value.ScalarValue.{ScalarValue}
use Rattle.vortex_arrays_view.specs.declared.error.ArrayError.{ArrayError}
use Rattle.vortex_arrays_view.specs.declared.error.ArrayError.TheVariants as error
use Rattle.vortex_arrays_model.specs.Layout.{Layout, bools, numbers, strings, texts, byte_strings, fixed_lists, list_views, records, len_of, array_type_of, content_at, rows_of}
use Rattle.vortex_arrays_model.proofs.RowsLemmas.{row_at_position, row_count}
use Rattle.vortex_arrays_struct.specs.Records.{AreRecords}
use Rattle.vortex_arrays_builder.specs.Plain.{IsPlainFault}
use Rattle.vortex_arrays_builder.specs.TooLarge.{AreTooLarge}
use Rattle.vortex_arrays_builder.specs.Types.{HasPlain, IsPlainLayout}
use Rattle.vortex_arrays_concat.specs.PlainTypes.{has_plain}
use Rattle.vortex_arrays_concat.specs.EndToEnd.{rows_of_arrays, rows_in_all, AreOfType, IsConcatenation, IsConcatFault}
use Rattle.vortex_arrays_concat.proofs.TypeLemmas.{plain_so, so_plain}

-- ---- counts

-- what was counted and what is left are all
abbrev pub Counted : List Layout → ℕ → ℕ → Type 0
Counted ls i n = n + rows_in_all (drop i ls) ≡ rows_in_all ls

lengths_left : (ls : List Layout) (i : ℕ) (a : Layout) → i < length ls → a ≡ get_or ls i a → rows_in_all (drop i ls) ≡ len_of a + rows_in_all (drop (i + 1) ls)
lengths_left ls i a l e =
    ap rows_in_all (drop-cons ls i a l ∙ (λ t. sym e t ∷ drop (sym (add-one i) t) ls))
    ∙ sum_by-cons (λ x. x) (len_of a) (map len_of (drop (i + 1) ls))

pub counted_none : (ls : List Layout) → Counted ls 0 0
counted_none ls = omega arith

pub counted_more : (ls : List Layout) (i n m : ℕ) (a : Layout) → Counted ls i n → i < length ls → a ≡ get_or ls i a → m ≡ n + len_of a → Counted ls (i + 1) m
counted_more ls i n m a h l e f = let s = lengths_left ls i a l e in omega (arith, h, s, f)

pub counted_all : (ls : List Layout) (i n : ℕ) → Counted ls i n → length ls ≤ i → n ≡ rows_in_all ls
counted_all ls i n h l =
    let none : rows_in_all (drop i ls) ≡ 0 = ap rows_in_all (drop_all i ls l) in
    omega (arith, h, none)

pub counted_past : (ls : List Layout) (i n : ℕ) (a : Layout) → Counted ls i n → i < length ls → a ≡ get_or ls i a → 2 ^ 64 ≤ n + len_of a → 2 ^ 64 ≤ rows_in_all ls
counted_past ls i n a h l e f = let s = lengths_left ls i a l e in omega (arith, h, s, f)

pub ruleset counted = (counted_none, counted_more, counted_all, counted_past)

-- ---- the rows of one array

abbrev Value : Type 0
Value = Option ScalarValue

abbrev pub AreOf : LogicalType → List Value → Type 0
AreOf k vs = All (λ row. valid k (raw_in row) ≡ true) vs

one_valid : (k : LogicalType) (vs ws : List Value) (v : Value) → AreOf k vs → valid k (raw_in v) ≡ true → ws ≡ vs ++ v ∷ [] → AreOf k ws
one_valid k vs ws v h e made = subst (AreOf k) (sym made) (All-append (λ row. valid k (raw_in row) ≡ true) vs (v ∷ []) h (All-cons (λ row. valid k (raw_in row) ≡ true) v [] e (All-nil (λ row. valid k (raw_in row) ≡ true))))

-- The first rows of the array are at their indices, and there is room for all.
pub record ArePlaced (a : Layout) (vs : List Value) (i : ℕ) : Type 0 where
  pub room : length vs ≡ len_of a
  pub rows : map content_in (take i vs) ≡ take i (rows_of a)
  pub valid : AreOf (array_type_of a) (take i vs)

pub placed_none : (a : Layout) (vs : List Value) → length vs ≡ len_of a → ArePlaced a vs 0
placed_none a vs room = record { room = room; rows = refl; valid = All-nil (λ row. valid (array_type_of a) (raw_in row) ≡ true) }

pub placed_more : (a : Layout) (vs : List Value) (i : ℕ) (v : Value) → ArePlaced a vs i → i < len_of a → content_in v ≡ content_at a i → valid (array_type_of a) (raw_in v) ≡ true → ArePlaced a (set vs i v) (i + 1)
placed_more a vs i v h l e f =
    let within : i < length (rows_of a) = subst (λ n. i < n) (sym (row_count a)) l in
    let placed : take (i + 1) (set vs i v) ≡ take i vs ++ v ∷ [] = take_more_set vs i v (subst (λ n. i < n) (sym h.room) l) in
    record {
      room = length-set vs i v ∙ h.room;
      rows = ap (map content_in) placed ∙ map-append content_in (take i vs) (v ∷ [])
          ∙ (λ t. h.rows t ++ (e ∙ sym (row_at_position a i (content_in v) l)) t ∷ [])
          ∙ sym (take_more (rows_of a) i (content_in v) within);
      valid = one_valid (array_type_of a) (take i vs) (take (i + 1) (set vs i v)) v h.valid f placed;
    }

placed_whole : (a : Layout) (vs : List Value) (i : ℕ) → ArePlaced a vs i → len_of a ≤ i → take i vs ≡ vs
placed_whole a vs i h l = take_all i vs (subst (λ m. m ≤ i) (sym h.room) l)

pub placed_rows : (a : Layout) (vs : List Value) (i : ℕ) → ArePlaced a vs i → len_of a ≤ i → map content_in vs ≡ rows_of a
placed_rows a vs i h l = sym (ap (map content_in) (placed_whole a vs i h l)) ∙ h.rows ∙ take_all i (rows_of a) (subst (λ m. m ≤ i) (sym (row_count a)) l)

pub placed_valid : (a : Layout) (vs : List Value) (i : ℕ) → ArePlaced a vs i → len_of a ≤ i → AreOf (array_type_of a) vs
placed_valid a vs i h l = subst (AreOf (array_type_of a)) (placed_whole a vs i h l) h.valid

pub ruleset placed = (placed_none, placed_rows, placed_valid)

-- ---- the rows of all

pub record AreGathered (ls : List Layout) (i : ℕ) (vs : List Value) : Type 0 where
  pub rows : map content_in vs ≡ rows_of_arrays (take i ls)
  pub valid : (k : LogicalType) → All (λ a. array_type_of a ≡ k) ls → AreOf k vs

pub gathered_none : (ls : List Layout) → AreGathered ls 0 []
gathered_none ls = record { rows = refl; valid = λ k h. All-nil (λ row. valid k (raw_in row) ≡ true) }

pub gathered_more : (ls : List Layout) (i : ℕ) (a : Layout) (vs ws : List Value) → AreGathered ls i vs → i < length ls → a ≡ get_or ls i a → map content_in ws ≡ rows_of a → AreOf (array_type_of a) ws → AreGathered ls (i + 1) (vs ++ ws)
gathered_more ls i a vs ws h l e r v = record {
  rows = map-append content_in vs ws ∙ (λ t. h.rows t ++ r t)
      ∙ sym (ap rows_of_arrays (take_more ls i a l ∙ ap (λ y. take i ls ++ y ∷ []) (sym e)) ∙ flat_map-append rows_of (take i ls) (a ∷ []) ∙ ap (λ xs. rows_of_arrays (take i ls) ++ xs) (append-nil (rows_of a)));
  valid = λ k all.
      let kind : array_type_of a ≡ k = ap array_type_of e ∙ all i a l in
      All-append (λ row. valid k (raw_in row) ≡ true) vs ws (h.valid k all) (subst (λ j. AreOf j ws) kind v);
}

pub gathered_rows : (ls : List Layout) (i : ℕ) (vs : List Value) → AreGathered ls i vs → length ls ≤ i → map content_in vs ≡ rows_of_arrays ls
gathered_rows ls i vs h l = h.rows ∙ ap rows_of_arrays (take_all i ls l)

pub gathered_valid : (ls : List Layout) (i : ℕ) (vs : List Value) → AreGathered ls i vs → (k : LogicalType) → All (λ a. array_type_of a ≡ k) ls → AreOf k vs
gathered_valid ls i vs h = h.valid

pub ruleset gathered = (gathered_none, gathered_rows, gathered_valid)

-- ---- one type for all

pub same_none : (ls : List Layout) (k : LogicalType) → All (λ a. array_type_of a ≡ k) (take 0 ls)
same_none ls k = All-nil (λ a. array_type_of a ≡ k)

pub same_more : (ls : List Layout) (k : LogicalType) (i : ℕ) (a : Layout) → All (λ a. array_type_of a ≡ k) (take i ls) → i < length ls → a ≡ get_or ls i a → array_type_of a ≡ k → All (λ a. array_type_of a ≡ k) (take (i + 1) ls)
same_more ls k i a h l e f = subst (All (λ a. array_type_of a ≡ k)) (sym (take_more ls i a l ∙ ap (λ y. take i ls ++ y ∷ []) (sym e))) (All-append (λ a. array_type_of a ≡ k) (take i ls) (a ∷ []) h (All-cons (λ a. array_type_of a ≡ k) a [] f (All-nil (λ a. array_type_of a ≡ k))))

pub same_all : (ls : List Layout) (k : LogicalType) (i : ℕ) → All (λ a. array_type_of a ≡ k) (take i ls) → length ls ≤ i → IsTrue true ↔ All (λ a. array_type_of a ≡ k) ls
same_all ls k i h l = ((λ t. subst (All (λ a. array_type_of a ≡ k)) (take_all i ls l) h), (λ all. refl))

pub same_not : (ls : List Layout) (k : LogicalType) (i : ℕ) (a : Layout) → i < length ls → a ≡ get_or ls i a → (array_type_of a ≡ k → ⊥) → IsTrue false ↔ All (λ a. array_type_of a ≡ k) ls
same_not ls k i a l e n = ((λ t. absurd (cc (t))), (λ all. absurd (n (ap array_type_of e ∙ all i a l))))

first_kind : (ls : List Layout) (a : Layout) (k : LogicalType) → 0 < length ls → a ≡ get_or ls 0 a → AreOfType ls k → array_type_of a ≡ k
first_kind ls a k l e h = ap array_type_of e ∙ h.kinds 0 a l

pub type_there : (ls : List Layout) (k : LogicalType) → 0 < length ls → is_struct_type k ≡ true → has_plain k ≡ true → All (λ a. array_type_of a ≡ k) ls → AreOfType ls k
type_there ls k l r h all = record { some = l; kinds = all; records = r; plain = plain_so k h }

pub not_records : (ls : List Layout) (a : Layout) → 0 < length ls → a ≡ get_or ls 0 a → is_struct_type (array_type_of a) ≡ false → (k : LogicalType) → AreOfType ls k → ⊥
not_records ls a l e n k h = cc (sym n ∙ ap is_struct_type (first_kind ls a k l e h) ∙ h.records)

pub no_array : (ls : List Layout) → length ls ≡ 0 → (k : LogicalType) → AreOfType ls k → ⊥
no_array ls e k h = let s = h.some in omega (arith, e, s)

pub not_plain : (ls : List Layout) (a : Layout) → 0 < length ls → a ≡ get_or ls 0 a → has_plain (array_type_of a) ≡ false → (k : LogicalType) → AreOfType ls k → ⊥
not_plain ls a l e n k h = cc (sym n ∙ ap has_plain (first_kind ls a k l e h) ∙ so_plain k h.plain)

pub not_one : (ls : List Layout) (a : Layout) → 0 < length ls → a ≡ get_or ls 0 a → (All (λ b. array_type_of b ≡ array_type_of a) ls → ⊥) → (k : LogicalType) → AreOfType ls k → ⊥
not_one ls a l e n k h = n (subst (λ j. All (λ b. array_type_of b ≡ j) ls) (sym (first_kind ls a k l e h)) h.kinds)

pub ruleset typed = (type_there, no_array, not_records, not_plain, not_one)

-- ---- the whole

abbrev Lent : Type 0
Lent = Option (Bor ScalarValue)

pub contents_of : (bs : List Lent) → map content_of (map raw_at bs) ≡ map value_content bs
contents_of [] = refl
contents_of (b ∷ bs) = ap (λ cs. value_content b ∷ cs) (contents_of bs)

pub contents_in : (vs : List Value) → map content_of (map raw_in vs) ≡ map content_in vs
contents_in [] = refl
contents_in (v ∷ vs) = ap (λ cs. content_in v ∷ cs) (contents_in vs)

pub valid_lent : (k : LogicalType) (vs : List Value) (bs : List Lent) → map raw_at bs ≡ map raw_in vs → AreOf k vs → All (λ b. valid k (raw_at b) ≡ true) bs
valid_lent k vs bs e h = λ i d l.
    let many : length bs ≡ length vs = sym (length-map bs raw_at) ∙ ap length e ∙ length-map vs raw_in in
    let m : i < length vs = omega (arith, l, many) in
    subst (λ r. valid k r ≡ true)
    (sym (get_or-map raw_in vs i None (raw_at d) m) ∙ sym (ap (λ rs. get_or rs i (raw_at d)) e) ∙ get_or-map raw_at bs i d (raw_at d) l)
    (h i None m)

pub same_rows : (ls : List Layout) (vs : List Value) (bs : List Lent) → map content_in vs ≡ rows_of_arrays ls → map raw_at bs ≡ map raw_in vs → map value_content bs ≡ rows_of_arrays ls
same_rows ls vs bs r e = sym (contents_of bs) ∙ ap (map content_of) e ∙ contents_in vs ∙ r

pub concat_made : (ls : List Layout) (k : LogicalType) (vs : List Value) (bs : List Lent) (a : Layout) → AreOfType ls k → map content_in vs ≡ rows_of_arrays ls → map raw_at bs ≡ map raw_in vs → array_type_of a ≡ k → rows_of a ≡ map value_content bs → IsConcatenation ls a
concat_made ls k vs bs a t r e f g = record {
  kinds = subst (AreOfType ls) (sym f) t;
  rows = g ∙ same_rows ls vs bs r e;
}

pub concat_fault : (e : ArrayError) (ls : List Layout) (k : LogicalType) (vs : List Value) (bs : List Lent) → AreOfType ls k → map content_in vs ≡ rows_of_arrays ls → map raw_at bs ≡ map raw_in vs → IsPlainFault e k (map value_content bs) → IsConcatFault e ls
concat_fault error.Memory ls k vs bs t r e h = tt
concat_fault error.Total ls k vs bs t r e h = (k, t, inr (subst (AreTooLarge k) (same_rows ls vs bs r e) h))
concat_fault x ls k vs bs t r e h = absurd h

pub rows_fit : (k : LogicalType) (rows : List Content) (a : Layout) → array_type_of a ≡ k → rows_of a ≡ rows → ¬ AreTooLarge k rows → ¬ AreTooLarge (array_type_of a) (rows_of a)
rows_fit k rows a e f h = subst (λ t. ¬ AreTooLarge t (rows_of a)) (sym e) (subst (λ cs. ¬ AreTooLarge k cs) (sym f) h)

pub uncounted : (ls : List Layout) (k : LogicalType) → AreOfType ls k → 2 ^ 64 ≤ rows_in_all ls → IsConcatFault error.Total ls
uncounted ls k t h = (k, t, inl h)

pub all_kinds : (ls : List Layout) (k : LogicalType) → AreOfType ls k → All (λ a. array_type_of a ≡ k) ls
all_kinds ls k h = h.kinds

pub has_layout : (ls : List Layout) (k : LogicalType) → AreOfType ls k → HasPlain k
has_layout ls k h = h.plain

pub ruleset whole = (valid_lent, concat_made, concat_fault, rows_fit, uncounted, all_kinds, has_layout)

-- ---- struct arrays

pub as_seen : (ls : List Layout) (a b : Layout) → IsConcatenation ls a → b ≡ a → IsConcatenation (map (λ a. a) ls) b
as_seen ls a b h e = subst (λ xs. IsConcatenation xs b) (sym (map-id ls)) (subst (IsConcatenation ls) (sym e) h)

pub fault_seen : (e : ArrayError) (ls : List Layout) → IsConcatFault e ls → IsConcatFault e (map (λ a. a) ls)
fault_seen e ls h = subst (IsConcatFault e) (sym (map-id ls)) h

-- an array of a struct type in plain layout is a struct array
plain_records : (a : Layout) → IsPlainLayout a → is_struct_type (array_type_of a) ≡ true → AreRecords a
plain_records (records cs n v) h e = tt
plain_records (bools bs v) h e = absurd (cc (e))
plain_records (numbers k zs v) h e = absurd (cc (e))
plain_records (strings texts vs bs v) h e = absurd (cc (e))
plain_records (strings byte_strings vs bs v) h e = absurd (cc (e))
plain_records (fixed_lists x m n v) h e = absurd (cc (e))
plain_records (list_views x o s f v) h e = absurd (cc (e))
plain_records a h e = absurd h

pub are_records : (ls : List Layout) (a : Layout) → IsConcatenation ls a → IsPlainLayout a → AreRecords a
are_records ls a c h = plain_records a h (let t = c.kinds in t.records)

pub counted_seen : (ls : List Layout) → rows_in_all ls < 2 ^ 64 → rows_in_all (map (λ a. a) ls) < 2 ^ 64
counted_seen ls h = subst (λ xs. rows_in_all xs < 2 ^ 64) (sym (map-id ls)) h

pub ruleset of_records = (as_seen, fault_seen, counted_seen, are_records)
