-- Fixed-size lists end to end, by their elements.
use Rattle.std.proofs.Common.{◌≡◌, ◌<◌, ◌≤◌, ◌+◌, ◌*◌, inl, inr, ℕ, cond, List, [], ◌∷◌, ◌++◌, length, map, get_or, refl, sym, ap, subst, ◌∙◌, arith}
use Rattle.std.specs.List.{All}
use Rattle.std.proofs.Math.Nat.{add-mul}
use Rattle.std.proofs.lemmas.Nat.{mul-add-lt}
use Rattle.std.proofs.lemmas.List.Concat.{flat_map_single}
use Rattle.std.proofs.lemmas.List.Elements.{All-head, All-tail, All-map}
use Rattle.vortex_model.specs.LogicalType.{LogicalType, list, fixed_list}
use Rattle.vortex_model.specs.Content.{null, tuple}
use Rattle.vortex_arrays_model.specs.Layout.{Layout, bools, numbers, strings, constant, dictionary, fixed_lists, list_views, records, Valid, len_of, array_type_of, content_at, span, is_valid, nullability_by, IsSound, HasLength}
use Rattle.vortex_arrays_model.specs.Parts.{valid_in}
use Rattle.vortex_arrays_model.proofs.PicksLemmas.{eq_span}
use Rattle.vortex_arrays_concat.specs.EndToEnd.{IsEndToEnd, rows_in_all}
use Rattle.vortex_arrays_concat.specs.Columns.{IsAt, validities, IsColumn, IsJoined}
use Rattle.vortex_arrays_concat.specs.FixedLists.{AreFixedLists, elements_in}
use Rattle.vortex_arrays_concat.proofs.ColumnLemmas.{AreItems, items_none, items_more, items_kinds, items_all, at_one, at_below, rows_joined, rows_more, lengths_joined, valid_at_place, kind_by_first, column_row}

-- ---- gathered

abbrev pub one_part : Layout → List Layout
one_part a = elements_in a ∷ []

abbrev pub Gathered : ℕ → List Layout → ℕ → List Layout → Type 0
Gathered s ls i xs = AreItems (AreFixedLists s) one_part ls i xs

pub no_parts : (s : ℕ) (ls : List Layout) → Gathered s ls 0 []
no_parts s ls = items_none (AreFixedLists s) one_part ls

pub more_parts : (s : ℕ) (ls : List Layout) (i : ℕ) (a b : Layout) (old new : List Layout) → Gathered s ls i old → i < length ls → a ≡ get_or ls i a → AreFixedLists s a → b ≡ elements_in a → new ≡ old ++ b ∷ [] → Gathered s ls (i + 1) new
more_parts s ls i a b old new h l e p q made =
    items_more (AreFixedLists s) one_part ls i a old new h l e p (made ∙ ap (λ x. old ++ x ∷ []) q)

pub all_parts : (s : ℕ) (ls : List Layout) (i : ℕ) (xs : List Layout) → Gathered s ls i xs → length ls ≤ i → xs ≡ map elements_in ls
all_parts s ls i xs h l = items_all (AreFixedLists s) one_part ls i xs h l ∙ flat_map_single elements_in ls

pub all_fixed : (s : ℕ) (ls : List Layout) (i : ℕ) (xs : List Layout) → Gathered s ls i xs → length ls ≤ i → All (AreFixedLists s) ls
all_fixed s ls i xs h l = items_kinds (AreFixedLists s) one_part ls i xs h l

pub ruleset gathered = (no_parts, more_parts, all_parts, all_fixed)

-- ---- one array

elements_count : (s : ℕ) (a : Layout) → AreFixedLists s a → len_of (elements_in a) ≡ len_of a * s
elements_count s (fixed_lists e t n v) h = h.1.1 ∙ ap (λ x. n * x) h.0
elements_count s (bools bs v) h = absurd h
elements_count s (numbers j zs v) h = absurd h
elements_count s (strings x vs bs v) h = absurd h
elements_count s (constant t r n) h = absurd h
elements_count s (dictionary c v f) h = absurd h
elements_count s (list_views e o x f v) h = absurd h
elements_count s (records cs n v) h = absurd h

fixed_row : (s : ℕ) (a : Layout) (i : ℕ) → AreFixedLists s a → content_at a i ≡ cond (is_valid (valid_in a) i) (tuple (span (λ j. content_at (elements_in a) j) (i * s) s)) null
fixed_row s (fixed_lists e t n v) i h = ap (λ x. cond (is_valid v i) (tuple (span (λ j. content_at e j) (i * x) x)) null) h.0
fixed_row s (bools bs v) i h = absurd h
fixed_row s (numbers j zs v) i h = absurd h
fixed_row s (strings x vs bs v) i h = absurd h
fixed_row s (constant t r n) i h = absurd h
fixed_row s (dictionary c v f) i h = absurd h
fixed_row s (list_views e o x f v) i h = absurd h
fixed_row s (records cs n v) i h = absurd h

fixed_kind : (s : ℕ) (a : Layout) → AreFixedLists s a → array_type_of a ≡ fixed_list (array_type_of (elements_in a)) s (nullability_by (valid_in a))
fixed_kind s (fixed_lists e t n v) h = ap (λ x. fixed_list (array_type_of e) x (nullability_by v)) h.0
fixed_kind s (bools bs v) h = absurd h
fixed_kind s (numbers j zs v) h = absurd h
fixed_kind s (strings x vs bs v) h = absurd h
fixed_kind s (constant t r n) h = absurd h
fixed_kind s (dictionary c v f) h = absurd h
fixed_kind s (list_views e o x f v) h = absurd h
fixed_kind s (records cs n v) h = absurd h

abbrev element_of : LogicalType → LogicalType
element_of (fixed_list k m n) = k
element_of (list k n) = k
element_of k = k

-- ---- all arrays

pub elements_in_all : (s : ℕ) (ls : List Layout) → All (AreFixedLists s) ls → rows_in_all (map elements_in ls) ≡ rows_in_all ls * s
elements_in_all s [] h = let e : 0 ≡ 0 * s = omega arith in e
elements_in_all s (a ∷ ls) h =
    rows_more (elements_in a) (map elements_in ls)
    ∙ (λ t. elements_count s a (All-head (AreFixedLists s) a ls h) t + elements_in_all s ls (All-tail (AreFixedLists s) a ls h) t)
    ∙ sym (ap (λ n. n * s) (rows_more a ls) ∙ add-mul (len_of a) (rows_in_all ls) s)

place_within : (i j s n : ℕ) → i < n → j < s → i * s + j < n * s
place_within i j s n l m = let p = mul-add-lt i s j n l m in let e : s * n ≡ n * s = omega arith in subst (λ x. i * s + j < x) e p

at_element : (s : ℕ) (ls : List Layout) (p : ℕ) (a : Layout) (i j : ℕ) → All (AreFixedLists s) ls → IsAt ls p a i → j < s → IsAt (map elements_in ls) (p * s + j) (elements_in a) (i * s + j)
at_element s [] p a i j all h l = absurd h
at_element s (b ∷ ls) p a i j all (inl h) l =
    let many = elements_count s b (All-head (AreFixedLists s) b ls all) in
    inl (ap elements_in h.0, ap (λ q. q * s + j) h.1, subst (λ n. i * s + j < n) (sym many) (place_within i j s (len_of b) h.2 l))
at_element s (b ∷ ls) p a i j all (inr h) l =
    let many = elements_count s b (All-head (AreFixedLists s) b ls all) in
    let split = add-mul (len_of b) h.0 s in
    let here : p * s + j ≡ len_of (elements_in b) + (h.0 * s + j) =
    ap (λ q. q * s + j) h.1 ∙ (let e : (len_of b + h.0) * s + j ≡ len_of b * s + (h.0 * s + j) = omega (arith, split) in e)
    ∙ ap (λ n. n + (h.0 * s + j)) (sym many) in
    inr (h.0 * s + j, here, at_element s ls h.0 a i j (All-tail (AreFixedLists s) b ls all) h.2 l)

element_types : (s : ℕ) (ls : List Layout) (t : LogicalType) → All (AreFixedLists s) ls → All (λ a. array_type_of a ≡ t) ls → All (λ a. array_type_of a ≡ element_of t) (map elements_in ls)
element_types s ls t h same = All-map (λ a. array_type_of a ≡ element_of t) elements_in ls (λ i d l. ap element_of (sym (fixed_kind s (get_or ls i d) (h i d l)) ∙ same i d l))

pub total_count : (s : ℕ) (ls xs : List Layout) (n m : ℕ) → All (AreFixedLists s) ls → xs ≡ map elements_in ls → n ≡ rows_in_all ls → m ≡ n * s → m ≡ rows_in_all xs
total_count s ls xs n m h e count total = total ∙ ap (λ x. x * s) count ∙ sym (elements_in_all s ls h) ∙ sym (ap rows_in_all e)

module _ (s : ℕ) (ls xs : List Layout) (e : Layout) (n : ℕ) (v : Valid) (some : 0 < length ls) (h : All (AreFixedLists s) ls) (is : xs ≡ map elements_in ls) (count : n ≡ rows_in_all ls) (joined : IsJoined xs e) (made : IsEndToEnd (validities ls) v) where
  elements_joined : IsJoined (map elements_in ls) e
  elements_joined = subst (λ ys. IsJoined ys e) is joined

  pub lists_fit : IsSound e → IsSound (fixed_lists e s n v)
  lists_fit sound = (
    sound,
    elements_joined.count ∙ elements_in_all s ls h ∙ ap (λ x. x * s) (sym count),
    subst (HasLength v) (lengths_joined ls ∙ sym count) made.fits,
  )

  lists_column : (t : LogicalType) → All (λ a. array_type_of a ≡ t) ls → IsColumn t ls (fixed_lists e s n v)
  lists_column t same =
      let types = element_types s ls t h same in
      let inside = elements_joined.column (element_of t) types in
      record {
        kind = kind_by_first (λ m. fixed_list (array_type_of e) s m) ls v t some (λ m. refl) (λ i d l.
            fixed_kind s (get_or ls i d) (h i d l)
            ∙ ap (λ k. fixed_list k s (nullability_by (valid_in (get_or ls i d)))) (ap element_of (sym (fixed_kind s (get_or ls i d) (h i d l)) ∙ same i d l) ∙ sym inside.kind)) made same;
        rows = rows_joined ls (fixed_lists e s n v) count (λ p a i at.
            let k = at_one (AreFixedLists s) ls p a i h at in
            ap (λ b. cond b (tuple (span (λ j. content_at e j) (p * s) s)) null) (valid_at_place ls v p a i (at_below ls p a i at) made at)
            ∙ ap (λ c. cond (is_valid (valid_in a) i) (tuple c) null) (eq_span (λ j. content_at e j) (λ j. content_at (elements_in a) j) (p * s) (i * s) s (λ j l.
            column_row (map elements_in ls) (element_of t) e (p * s + j) (elements_in a) (i * s + j) elements_joined types (at_element s ls p a i j h at l)))
            ∙ sym (fixed_row s a i k));
        plain = inside.plain;
      }

  pub lists_joined : (r : Layout) → r ≡ fixed_lists e s n v → IsJoined ls r
  lists_joined r made_so = record {
    count = ap len_of made_so ∙ count;
    column = λ t same. subst (IsColumn t ls) (sym made_so) (lists_column t same);
  }

pub ruleset fixed = (total_count, lists_fit, lists_joined)
