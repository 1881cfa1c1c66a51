-- Columns end to end.
use Rattle.std.proofs.Common.{◌≡◌, ◌<◌, ◌≤◌, ◌+◌, ◌-◌, ◌⊎◌, inl, inr, ℕ, ℤ, pos, Bool, false, cond, List, [], ◌∷◌, ◌++◌, length, map, flat_map, take, get_or, refl, sym, ap, subst, ◌∙◌, arith}
use Rattle.std.specs.List.{All}
use Rattle.std.proofs.lemmas.Bool.{cases_lt}
use Rattle.std.proofs.lemmas.List.{length-append, length-map, map-append, take_more, take_all, append-nil, get_or_append_left, get_or-append-add}
use Rattle.std.proofs.lemmas.List.Concat.{flat_map-append}
use Rattle.std.proofs.lemmas.List.Folds.{flat_map-map}
use Rattle.std.proofs.lemmas.List.Sums.{sum_by-cons}
use Rattle.std.proofs.lemmas.List.Elements.{All-nil, All-append, All-cons, All-head, All-tail}
use Rattle.std.proofs.lemmas.List.FromFn.{get_or-map-range_with_len}
use Rattle.vortex_model.specs.LogicalType.{LogicalType, IntKind, Nullability, non_nullable, nullable, nullability_of, either_nullable, integer_type, boolean_type}
use Rattle.vortex_model.specs.Content.{null, boolean, integer}
use Rattle.vortex_arrays_model.specs.Layout.{Layout, bools, numbers, strings, constant, dictionary, fixed_lists, list_views, records, Valid, len_of, array_type_of, content_at, rows_of, is_valid, nullability_by, IsSound, HasLength}
use Rattle.vortex_arrays_model.specs.Parts.{valid_in}
use Rattle.vortex_arrays_model.proofs.RowsLemmas.{row_at_position, row_count, rows_by_position}
use Rattle.vortex_arrays_core.specs.LayoutOf.{valid_of}
use Rattle.vortex_arrays_core.specs.declared.array.Validity.{Validity}
use Rattle.vortex_arrays_validity.specs.Validities.{valid_rows, lengths_of_all}
use Rattle.vortex_arrays_validity.proofs.Rows.{row_count as valid_count}
use Rattle.vortex_arrays_concat.specs.EndToEnd.{Part, parts_of, nullability_of_all, HaveLengths, IsEndToEnd, rows_of_arrays, rows_in_all}
use Rattle.vortex_arrays_concat.proofs.ValidityLemmas.{seen}
use Rattle.vortex_arrays_concat.specs.Columns.{IsAt, validities, numbers_in, bits_in, AreNumbers, AreBools, IsColumn, IsJoined}

-- ---- where a row is

pub record Place (ls : List Layout) (p : ℕ) : Type 0 where
  pub array : Layout
  pub row : ℕ
  pub at : IsAt ls p array row

pub rows_more : (a : Layout) (ls : List Layout) → rows_in_all (a ∷ ls) ≡ len_of a + rows_in_all ls
rows_more a ls = sum_by-cons (λ x. x) (len_of a) (map len_of ls)

none_below : (p : ℕ) → p < 0 → ⊥
none_below p l = omega (arith, l)

place_by : (b : Layout) (bs : List Layout) (p : ℕ) → p < len_of b + rows_in_all bs → ((q : ℕ) → q < rows_in_all bs → Place bs q) → (p < len_of b) ⊎ (len_of b ≤ p) → Place (b ∷ bs) p
place_by b bs p l f (inl h) = record { array = b; row = p; at = inl (refl, refl, h) }
place_by b bs p l f (inr h) =
    let small : p - len_of b < rows_in_all bs = omega (arith, l, h) in
    let sum : p ≡ len_of b + (p - len_of b) = omega (arith, h) in
    let next = f (p - len_of b) small in
    record { array = next.array; row = next.row; at = inr (p - len_of b, sum, next.at) }

pub place_of : (ls : List Layout) (p : ℕ) → p < rows_in_all ls → Place ls p
place_of [] p l = absurd (none_below p l)
place_of (b ∷ bs) p l =
    place_by b bs p (subst (λ n. p < n) (rows_more b bs) l) (place_of bs) (cases_lt p (len_of b))

-- it is one of them, and has the row
pub at_one : (P : Layout → Type 0) (ls : List Layout) (p : ℕ) (a : Layout) (i : ℕ) → All P ls → IsAt ls p a i → P a
at_one P [] p a i all h = absurd h
at_one P (b ∷ bs) p a i all (inl h) = subst P (sym h.0) (All-head P b bs all)
at_one P (b ∷ bs) p a i all (inr h) = at_one P bs h.0 a i (All-tail P b bs all) h.2

pub at_within : (ls : List Layout) (p : ℕ) (a : Layout) (i : ℕ) → IsAt ls p a i → i < len_of a
at_within [] p a i h = absurd h
at_within (b ∷ bs) p a i (inl h) = subst (λ c. i < len_of c) (sym h.0) h.2
at_within (b ∷ bs) p a i (inr h) = at_within bs h.0 a i h.2

-- lists of as many items as the arrays have rows, one after another
abbrev pub HaveItems : {A : Type 0} → (Layout → List A) → List Layout → Type 0
HaveItems f ls = All (λ a. length (f a) ≡ len_of a) ls

pub item_at : {A : Type 0} (f : Layout → List A) (ls : List Layout) (p : ℕ) (a : Layout) (i : ℕ) (d : A) → HaveItems f ls → IsAt ls p a i → get_or (flat_map f ls) p d ≡ get_or (f a) i d
item_at f [] p a i d all h = absurd h
item_at f (b ∷ bs) p a i d all (inl h) =
    let many = All-head (λ x. length (f x) ≡ len_of x) b bs all in
    let small : i < length (f b) = subst (λ n. i < n) (sym many) h.2 in
    ap (λ n. get_or (f b ++ flat_map f bs) n d) h.1
    ∙ get_or_append_left (f b) (flat_map f bs) d i small
    ∙ sym (ap (λ x. get_or (f x) i d) h.0)
item_at f (b ∷ bs) p a i d all (inr h) =
    let many = All-head (λ x. length (f x) ≡ len_of x) b bs all in
    ap (λ n. get_or (f b ++ flat_map f bs) n d) (h.1 ∙ ap (λ m. m + h.0) (sym many))
    ∙ get_or-append-add (f b) (flat_map f bs) h.0 d
    ∙ item_at f bs h.0 a i d (All-tail (λ x. length (f x) ≡ len_of x) b bs all) h.2

pub items_count : {A : Type 0} (f : Layout → List A) (ls : List Layout) → HaveItems f ls → length (flat_map f ls) ≡ rows_in_all ls
items_count f [] all = refl
items_count f (b ∷ bs) all =
    length-append (f b) (flat_map f bs)
    ∙ (λ t. All-head (λ x. length (f x) ≡ len_of x) b bs all t + items_count f bs (All-tail (λ x. length (f x) ≡ len_of x) b bs all) t)
    ∙ sym (rows_more b bs)

pub have_rows : (ls : List Layout) → HaveItems rows_of ls
have_rows ls = λ i d l. row_count (get_or ls i d)

-- an array has the rows of all where each of its rows is that of an array
pub rows_joined : (ls : List Layout) (r : Layout) → len_of r ≡ rows_in_all ls → ((p : ℕ) (a : Layout) (i : ℕ) → IsAt ls p a i → content_at r p ≡ content_at a i) → rows_of r ≡ rows_of_arrays ls
rows_joined ls r many same = rows_by_position r (rows_of_arrays ls) (items_count rows_of ls (have_rows ls) ∙ sym many) (λ p l.
    let place = place_of ls p (subst (λ n. p < n) many l) in
    item_at rows_of ls p place.array place.row null (have_rows ls) place.at
    ∙ row_at_position place.array place.row null (at_within ls p place.array place.row place.at)
    ∙ sym (same p place.array place.row place.at))

pub at_below : (ls : List Layout) (p : ℕ) (a : Layout) (i : ℕ) → IsAt ls p a i → p < rows_in_all ls
at_below [] p a i h = absurd h
at_below (b ∷ bs) p a i (inl h) =
    let s = rows_more b bs in let e = h.1 in let l = h.2 in omega (arith, s, e, l)
at_below (b ∷ bs) p a i (inr h) =
    let s = rows_more b bs in let e = h.1 in let l = at_below bs h.0 a i h.2 in
    omega (arith, s, e, l)

-- a row of the joined array
pub column_row : (ls : List Layout) (k : LogicalType) (r : Layout) (p : ℕ) (a : Layout) (i : ℕ) → IsJoined ls r → All (λ b. array_type_of b ≡ k) ls → IsAt ls p a i → content_at r p ≡ content_at a i
column_row ls k r p a i h same at =
    let below = at_below ls p a i at in
    sym (row_at_position r p null (subst (λ n. p < n) (sym h.count) below))
    ∙ ap (λ rows. get_or rows p null) (h.column k same).rows
    ∙ item_at rows_of ls p a i null (have_rows ls) at
    ∙ row_at_position a i null (at_within ls p a i at)

-- ---- nulls

abbrev bits_by : Layout → List Bool
bits_by a = valid_rows (valid_in a) (len_of a)

pub lengths_joined : (ls : List Layout) → lengths_of_all (validities ls) ≡ rows_in_all ls
lengths_joined [] = refl
lengths_joined (a ∷ ls) =
    sum_by-cons (λ x. x) (len_of a) (map (λ part. part.1) (validities ls))
    ∙ ap (λ n. len_of a + n) (lengths_joined ls) ∙ sym (rows_more a ls)

pub valid_at_place : (ls : List Layout) (v : Valid) (p : ℕ) (a : Layout) (i : ℕ) → p < rows_in_all ls → IsEndToEnd (validities ls) v → IsAt ls p a i → is_valid v p ≡ is_valid (valid_in a) i
valid_at_place ls v p a i l h at =
    let many = lengths_joined ls in
    let small : p < lengths_of_all (validities ls) = subst (λ n. p < n) (sym many) l in
    sym (get_or-map-range_with_len (is_valid v) 0 (lengths_of_all (validities ls)) p p false small (omega arith))
    ∙ ap (λ bs. get_or bs p false) (h.rows ∙ flat_map-map (λ part. valid_rows part.0 part.1) (λ a. (valid_in a, len_of a)) ls)
    ∙ item_at bits_by ls p a i false (λ j d m. valid_count (valid_in (get_or ls j d)) (len_of (get_or ls j d))) at
    ∙ get_or-map-range_with_len (is_valid (valid_in a)) 0 (len_of a) i i false (at_within ls p a i at) (omega arith)

-- the rows of one more array
pub rows_snoc : (ls : List Layout) (a : Layout) → rows_in_all (ls ++ a ∷ []) ≡ rows_in_all ls + len_of a
rows_snoc [] a = rows_more a [] ∙ omega arith
rows_snoc (b ∷ ls) a =
    rows_more b (ls ++ a ∷ []) ∙ ap (λ n. len_of b + n) (rows_snoc ls a)
    ∙ (let s = rows_more b ls in omega (arith, s))

pub at_snoc : (ls : List Layout) (c : Layout) (p : ℕ) (a : Layout) (i : ℕ) → IsAt (ls ++ c ∷ []) p a i → IsAt ls p a i ⊎ ((a ≡ c) × (p ≡ rows_in_all ls + i) × (i < len_of c))
at_snoc [] c p a i (inl h) = inr (h.0, h.1 ∙ omega arith, h.2)
at_snoc [] c p a i (inr h) = absurd h.2
at_snoc (b ∷ ls) c p a i (inl h) = inl (inl h)
at_snoc (b ∷ ls) c p a i (inr h) = elim (at_snoc ls c h.0 a i h.2) [
  | inl at ↦ inl (inr (h.0, h.1, at))
  | inr last ↦ inr (last.0, (let s = rows_more b ls in let e = h.1 in let f = last.1 in omega (arith, s, e, f)), last.2)
]

either_same : (n : Nullability) → either_nullable n n ≡ n
either_same non_nullable = refl
either_same nullable = refl

either_first : (n : Nullability) → either_nullable n non_nullable ≡ n
either_first non_nullable = refl
either_first nullable = refl

nullability_joined : (ls : List Layout) (n : Nullability) → 0 < length ls → All (λ a. nullability_by (valid_in a) ≡ n) ls → nullability_of_all (validities ls) ≡ n
nullability_joined [] n l all = absurd (none_below 0 l)
nullability_joined (a ∷ []) n l all =
    either_first (nullability_by (valid_in a)) ∙ All-head (λ x. nullability_by (valid_in x) ≡ n) a [] all
nullability_joined (a ∷ b ∷ ls) n l all =
    (λ t. either_nullable (All-head (λ x. nullability_by (valid_in x) ≡ n) a (b ∷ ls) all t) (nullability_joined (b ∷ ls) n (omega arith) (All-tail (λ x. nullability_by (valid_in x) ≡ n) a (b ∷ ls) all) t))
    ∙ either_same n

-- ---- integers

numbers_count : (k : IntKind) (a : Layout) → AreNumbers k a → length (numbers_in a) ≡ len_of a
numbers_count k (numbers j zs v) h = refl
numbers_count k (bools bs v) h = absurd h
numbers_count k (strings s vs bs v) h = absurd h
numbers_count k (constant t r n) h = absurd h
numbers_count k (dictionary c v f) h = absurd h
numbers_count k (fixed_lists e s n v) h = absurd h
numbers_count k (list_views e o s f v) h = absurd h
numbers_count k (records cs n v) h = absurd h

number_content : (k : IntKind) (a : Layout) (i : ℕ) → AreNumbers k a → content_at a i ≡ cond (is_valid (valid_in a) i) (integer (get_or (numbers_in a) i (pos 0))) null
number_content k (numbers j zs v) i h = refl
number_content k (bools bs v) i h = absurd h
number_content k (strings s vs bs v) i h = absurd h
number_content k (constant t r n) i h = absurd h
number_content k (dictionary c v f) i h = absurd h
number_content k (fixed_lists e s n v) i h = absurd h
number_content k (list_views e o s f v) i h = absurd h
number_content k (records cs n v) i h = absurd h

number_kind : (k : IntKind) (a : Layout) → AreNumbers k a → array_type_of a ≡ integer_type k (nullability_by (valid_in a))
number_kind k (numbers j zs v) h = ap (λ x. integer_type x (nullability_by v)) h
number_kind k (bools bs v) h = absurd h
number_kind k (strings s vs bs v) h = absurd h
number_kind k (constant t r n) h = absurd h
number_kind k (dictionary c v f) h = absurd h
number_kind k (fixed_lists e s n v) h = absurd h
number_kind k (list_views e o s f v) h = absurd h
number_kind k (records cs n v) h = absurd h

have_numbers : (k : IntKind) (ls : List Layout) → All (AreNumbers k) ls → HaveItems numbers_in ls
have_numbers k ls h = λ i d l. numbers_count k (get_or ls i d) (h i d l)

-- the type of the first has the nullability
pub kind_by_first : (make : Nullability → LogicalType) (ls : List Layout) (v : Valid) (t : LogicalType) → 0 < length ls → ((n : Nullability) → nullability_of (make n) ≡ n) → All (λ a. array_type_of a ≡ make (nullability_by (valid_in a))) ls → IsEndToEnd (validities ls) v → All (λ a. array_type_of a ≡ t) ls → make (nullability_by v) ≡ t
kind_by_first make [] v t l said kinds e same = absurd (none_below 0 l)
kind_by_first make (a ∷ ls) v t l said kinds e same =
    let first : 0 < length (a ∷ ls) = omega arith in
    let n = nullability_of t in
    let all : All (λ b. nullability_by (valid_in b) ≡ n) (a ∷ ls) = λ i d m.
    sym (said (nullability_by (valid_in (get_or (a ∷ ls) i d)))) ∙ ap nullability_of (sym (kinds i d m) ∙ same i d m) in
    ap make (e.nullability ∙ nullability_joined (a ∷ ls) n first all ∙ sym (all 0 a first))
    ∙ sym (kinds 0 a first) ∙ same 0 a first

pub numbers_fit : (ls : List Layout) (k : IntKind) (zs : List ℤ) (v : Valid) → All (AreNumbers k) ls → zs ≡ flat_map numbers_in ls → IsEndToEnd (validities ls) v → HasLength v (length zs)
numbers_fit ls k zs v h e made = subst (HasLength v) (lengths_joined ls ∙ sym (items_count numbers_in ls (have_numbers k ls h)) ∙ sym (ap length e)) made.fits

pub column_of_numbers : (ls : List Layout) (k : IntKind) (zs : List ℤ) (v : Valid) (r : Layout) → 0 < length ls → All (AreNumbers k) ls → zs ≡ flat_map numbers_in ls → IsEndToEnd (validities ls) v → r ≡ numbers k zs v → IsJoined ls r
column_of_numbers ls k zs v r l h e made is =
    let many : length zs ≡ rows_in_all ls = ap length e ∙ items_count numbers_in ls (have_numbers k ls h) in
    record {
      count = ap len_of is ∙ many;
      column = λ t same. subst (IsColumn t ls) (sym is) (record {
        kind = kind_by_first (λ n. integer_type k n) ls v t l (λ n. refl) (λ i d m. number_kind k (get_or ls i d) (h i d m)) made same;
        rows = rows_joined ls (numbers k zs v) many (λ p a i at.
            (λ t. cond (valid_at_place ls v p a i (at_below ls p a i at) made at t) (integer ((ap (λ xs. get_or xs p (pos 0)) e ∙ item_at numbers_in ls p a i (pos 0) (have_numbers k ls h) at) t)) null)
            ∙ sym (number_content k a i (at_one (AreNumbers k) ls p a i h at)));
        plain = tt;
      });
    }

pub ruleset numbers_joined = (numbers_fit, column_of_numbers)

-- what was gathered from the first arrays
pub record AreItems {A : Type 0} (P : Layout → Type 0) (f : Layout → List A) (ls : List Layout) (i : ℕ) (xs : List A) : Type 0 where
  pub kinds : All P (take i ls)
  pub items : xs ≡ flat_map f (take i ls)

pub items_none : {A : Type 0} (P : Layout → Type 0) (f : Layout → List A) (ls : List Layout) → AreItems P f ls 0 []
items_none P f ls = record { kinds = All-nil P; items = refl }

pub items_more : {A : Type 0} (P : Layout → Type 0) (f : Layout → List A) (ls : List Layout) (i : ℕ) (a : Layout) (old new : List A) → AreItems P f ls i old → i < length ls → a ≡ get_or ls i a → P a → new ≡ old ++ f a → AreItems P f ls (i + 1) new
items_more P f ls i a old new h l e p made =
    let front : take (i + 1) ls ≡ take i ls ++ a ∷ [] = take_more ls i a l ∙ ap (λ y. take i ls ++ y ∷ []) (sym e) in
    record {
      kinds = subst (All P) (sym front) (All-append P (take i ls) (a ∷ []) h.kinds (All-cons P a [] p (All-nil P)));
      items = made ∙ ap (λ xs. xs ++ f a) h.items
          ∙ sym (ap (flat_map f) front ∙ flat_map-append f (take i ls) (a ∷ []) ∙ ap (λ xs. flat_map f (take i ls) ++ xs) (append-nil (f a)));
    }

pub items_kinds : {A : Type 0} (P : Layout → Type 0) (f : Layout → List A) (ls : List Layout) (i : ℕ) (xs : List A) → AreItems P f ls i xs → length ls ≤ i → All P ls
items_kinds P f ls i xs h l = subst (All P) (take_all i ls l) h.kinds

pub items_all : {A : Type 0} (P : Layout → Type 0) (f : Layout → List A) (ls : List Layout) (i : ℕ) (xs : List A) → AreItems P f ls i xs → length ls ≤ i → xs ≡ flat_map f ls
items_all P f ls i xs h l = h.items ∙ ap (flat_map f) (take_all i ls l)

abbrev pub Numbers : IntKind → List Layout → ℕ → List ℤ → Type 0
Numbers k ls i zs = AreItems (AreNumbers k) numbers_in ls i zs

pub no_numbers : (k : IntKind) (ls : List Layout) → Numbers k ls 0 []
no_numbers k ls = items_none (AreNumbers k) numbers_in ls

pub more_numbers : {T : Type 0} (g : T → ℤ) (k : IntKind) (ls : List Layout) (i : ℕ) (a : Layout) (old xs new : List T) → Numbers k ls i (map g old) → i < length ls → a ≡ get_or ls i a → AreNumbers k a → map g xs ≡ numbers_in a → new ≡ old ++ xs → Numbers k ls (i + 1) (map g new)
more_numbers g k ls i a old xs new h l e p q made =
    items_more (AreNumbers k) numbers_in ls i a (map g old) (map g new) h l e p
    (ap (map g) made ∙ map-append g old xs ∙ ap (λ ys. map g old ++ ys) q)

pub all_numbers : (k : IntKind) (ls : List Layout) (i : ℕ) (zs : List ℤ) → Numbers k ls i zs → length ls ≤ i → zs ≡ flat_map numbers_in ls
all_numbers k ls i zs h l = items_all (AreNumbers k) numbers_in ls i zs h l

pub all_of_kind : (k : IntKind) (ls : List Layout) (i : ℕ) (zs : List ℤ) → Numbers k ls i zs → length ls ≤ i → All (AreNumbers k) ls
all_of_kind k ls i zs h l = items_kinds (AreNumbers k) numbers_in ls i zs h l

pub ruleset items_gathered = (no_numbers, more_numbers, all_numbers, all_of_kind)

-- ---- booleans

bits_count : (a : Layout) → AreBools a → length (bits_in a) ≡ len_of a
bits_count (bools bs v) h = refl
bits_count (numbers j zs v) h = absurd h
bits_count (strings s vs bs v) h = absurd h
bits_count (constant t r n) h = absurd h
bits_count (dictionary c v f) h = absurd h
bits_count (fixed_lists e s n v) h = absurd h
bits_count (list_views e o s f v) h = absurd h
bits_count (records cs n v) h = absurd h

bit_content : (a : Layout) (i : ℕ) → AreBools a → content_at a i ≡ cond (is_valid (valid_in a) i) (boolean (get_or (bits_in a) i false)) null
bit_content (bools bs v) i h = refl
bit_content (numbers j zs v) i h = absurd h
bit_content (strings s vs bs v) i h = absurd h
bit_content (constant t r n) i h = absurd h
bit_content (dictionary c v f) i h = absurd h
bit_content (fixed_lists e s n v) i h = absurd h
bit_content (list_views e o s f v) i h = absurd h
bit_content (records cs n v) i h = absurd h

bit_kind : (a : Layout) → AreBools a → array_type_of a ≡ boolean_type (nullability_by (valid_in a))
bit_kind (bools bs v) h = refl
bit_kind (numbers j zs v) h = absurd h
bit_kind (strings s vs bs v) h = absurd h
bit_kind (constant t r n) h = absurd h
bit_kind (dictionary c v f) h = absurd h
bit_kind (fixed_lists e s n v) h = absurd h
bit_kind (list_views e o s f v) h = absurd h
bit_kind (records cs n v) h = absurd h

have_bits : (ls : List Layout) → All AreBools ls → HaveItems bits_in ls
have_bits ls h = λ i d l. bits_count (get_or ls i d) (h i d l)

pub bits_fit : (ls : List Layout) (bs : List Bool) (v : Valid) → All AreBools ls → bs ≡ flat_map bits_in ls → IsEndToEnd (validities ls) v → HasLength v (length bs)
bits_fit ls bs v h e made = subst (HasLength v) (lengths_joined ls ∙ sym (items_count bits_in ls (have_bits ls h)) ∙ sym (ap length e)) made.fits

pub column_of_bits : (ls : List Layout) (bs : List Bool) (v : Valid) (r : Layout) → 0 < length ls → All AreBools ls → bs ≡ flat_map bits_in ls → IsEndToEnd (validities ls) v → r ≡ bools bs v → IsJoined ls r
column_of_bits ls bs v r l h e made is =
    let many : length bs ≡ rows_in_all ls = ap length e ∙ items_count bits_in ls (have_bits ls h) in
    record {
      count = ap len_of is ∙ many;
      column = λ t same. subst (IsColumn t ls) (sym is) (record {
        kind = kind_by_first (λ n. boolean_type n) ls v t l (λ n. refl) (λ i d m. bit_kind (get_or ls i d) (h i d m)) made same;
        rows = rows_joined ls (bools bs v) many (λ p a i at.
            (λ t. cond (valid_at_place ls v p a i (at_below ls p a i at) made at t) (boolean ((ap (λ xs. get_or xs p false) e ∙ item_at bits_in ls p a i false (have_bits ls h) at) t)) null)
            ∙ sym (bit_content a i (at_one AreBools ls p a i h at)));
        plain = tt;
      });
    }

pub ruleset bools_joined = (bits_fit, column_of_bits)

abbrev pub Bits : List Layout → ℕ → List Bool → Type 0
Bits ls i bs = AreItems AreBools bits_in ls i bs

pub no_bits : (ls : List Layout) → Bits ls 0 []
no_bits ls = items_none AreBools bits_in ls

pub more_bits : (ls : List Layout) (i : ℕ) (a : Layout) (old xs new : List Bool) → Bits ls i old → i < length ls → a ≡ get_or ls i a → AreBools a → xs ≡ bits_in a → new ≡ old ++ xs → Bits ls (i + 1) new
more_bits ls i a old xs new h l e p q made = items_more AreBools bits_in ls i a old new h l e p (made ∙ ap (λ ys. old ++ ys) q)

pub all_bits : (ls : List Layout) (i : ℕ) (bs : List Bool) → Bits ls i bs → length ls ≤ i → bs ≡ flat_map bits_in ls
all_bits ls i bs h l = items_all AreBools bits_in ls i bs h l

pub all_of_bits : (ls : List Layout) (i : ℕ) (bs : List Bool) → Bits ls i bs → length ls ≤ i → All AreBools ls
all_of_bits ls i bs h l = items_kinds AreBools bits_in ls i bs h l

pub ruleset bits_gathered = (no_bits, more_bits, all_bits, all_of_bits)

-- ---- validities

abbrev Held : Type 0
Held = Validity × ℕ

sound_fits : (a : Layout) → IsSound a → HasLength (valid_in a) (len_of a)
sound_fits (bools bs v) h = h
sound_fits (numbers j zs v) h = h.1
sound_fits (strings s vs bs v) h = h.1
sound_fits (constant t r n) h = tt
sound_fits (dictionary c v f) h = tt
sound_fits (fixed_lists e s n v) h = h.2
sound_fits (list_views e o s f v) h = h.6
sound_fits (records cs n v) h = h.1

pub record AreHeld (ls : List Layout) (i : ℕ) (ps : List Held) : Type 0 where
  pub parts : parts_of ps ≡ validities (take i ls)
  pub fit : HaveLengths (parts_of ps)

pub none_held : (ls : List Layout) → AreHeld ls 0 []
none_held ls = record { parts = refl; fit = All-nil (λ part. HasLength part.0 part.1) }

pub more_held : (ls : List Layout) (i : ℕ) (a : Layout) (p : Held) (old new : List Held) → AreHeld ls i old → i < length ls → a ≡ get_or ls i a → IsSound a → valid_of p.0 ≡ valid_in a → p.1 ≡ len_of a → new ≡ old ++ p ∷ [] → AreHeld ls (i + 1) new
more_held ls i a p old new h l e sound v n made =
    let front : take (i + 1) ls ≡ take i ls ++ a ∷ [] = take_more ls i a l ∙ ap (λ y. take i ls ++ y ∷ []) (sym e) in
    let one : Part = (valid_of p.0, p.1) in
    let all : parts_of new ≡ parts_of old ++ one ∷ [] = ap parts_of made ∙ map-append seen old (p ∷ []) in
    let fits : HasLength (valid_of p.0) p.1 = subst (λ m. HasLength (valid_of p.0) m) (sym n) (subst (λ w. HasLength w (len_of a)) (sym v) (sound_fits a sound)) in
    record {
      parts = all ∙ (λ t. h.parts t ++ (v t, n t) ∷ [])
          ∙ sym (ap validities front ∙ map-append (λ x. (valid_in x, len_of x)) (take i ls) (a ∷ []));
      fit = subst HaveLengths (sym all) (All-append (λ part. HasLength part.0 part.1) (parts_of old) (one ∷ []) h.fit (All-cons (λ part. HasLength part.0 part.1) one [] fits (All-nil (λ part. HasLength part.0 part.1))));
    }

pub all_held : (ls : List Layout) (i : ℕ) (ps : List Held) → AreHeld ls i ps → length ls ≤ i → parts_of ps ≡ validities ls
all_held ls i ps h l = h.parts ∙ ap validities (take_all i ls l)

pub held_fit : (ls : List Layout) (i : ℕ) (ps : List Held) → AreHeld ls i ps → HaveLengths (parts_of ps)
held_fit ls i ps h = h.fit

pub ruleset validities_gathered = (none_held, more_held, all_held, held_fit)

pub some_held : (ls : List Layout) (ps : List Held) → parts_of ps ≡ validities ls → 0 < length ls → 0 < length ps
some_held ls ps e l =
    let many : length ps ≡ length ls = sym (length-map ps seen) ∙ ap length e ∙ length-map ls (λ a. (valid_in a, len_of a)) in
    subst (λ n. 0 < n) (sym many) l

pub count_held : (ls : List Layout) (ps : List Held) (n : ℕ) → parts_of ps ≡ validities ls → n ≡ rows_in_all ls → n ≡ lengths_of_all (parts_of ps)
count_held ls ps n e h = h ∙ sym (lengths_joined ls) ∙ sym (ap lengths_of_all e)

pub held_joined : (ls : List Layout) (ps : List Held) (v : Valid) → parts_of ps ≡ validities ls → IsEndToEnd (parts_of ps) v → IsEndToEnd (validities ls) v
held_joined ls ps v e h = subst (λ xs. IsEndToEnd xs v) e h

pub ruleset validities_joined = (some_held, count_held, held_joined)
