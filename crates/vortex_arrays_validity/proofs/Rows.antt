-- Rows as bits.
use Rattle.std.proofs.Common.{◌≡◌, ◌<◌, ◌+◌, ◌∙◌, ◌↔◌, ◌++◌, ℕ, List, [], ◌∷◌, Bool, true, false, not, length, map, replicate, All, ◌||◌, slice_index_or, IsTrue, refl, sym, ap, subst, arith}
use Rattle.std.proofs.lemmas.List.{length-replicate, get_or-replicate, length-map, get_or-map}
use Rattle.std.proofs.lemmas.List.Elements.{All-from_get_or}
use Rattle.std.proofs.lemmas.List.FromFn.{fill_by_all, get_or-map-range_with_len, length-map-range_with_len, map-range_with_len_more}
use Rattle.vortex_model.specs.LogicalType.{boolean_type, nullable, non_nullable, either_nullable, is_nullable, Nullability}
use Rattle.vortex_model.specs.Content.{Content, boolean}
use Rattle.vortex_model.specs.Valid.{IsContent}
use Rattle.vortex_arrays_model.specs.Layout.{Layout, Valid, required, all_valid, all_null, by_array, bools, len_of, nullability_by, content_at, is_valid, is_truth, HasLength}
use Rattle.vortex_arrays_model.proofs.ValidRows.{rows_valid}
use Rattle.vortex_arrays_validity.specs.Validities.{valid_rows, IsMaskArray, IsInverse, IsRecast, IsPatched, IsLastPlace, NoPlace, NoneNull}

-- bits that are true where a row is not null are the rows
pub rows_by_bits : (v : Valid) (bits : List Bool) (n : ℕ) → length bits ≡ n →
    ((i : ℕ) → i < n → slice_index_or bits i false ≡ is_valid v i) → bits ≡ valid_rows v n
rows_by_bits v bits n len each = fill_by_all (is_valid v) bits n false len each

-- packed bits are the rows, where none of them can be null
pub packed : (bits : List Bool) (v : Valid) →
    boolean_type (nullability_by v) ≡ boolean_type non_nullable →
    bits ≡ valid_rows (by_array (bools bits v)) (length bits)
packed bits required e =
    rows_by_bits (by_array (bools bits required)) bits (length bits) refl (λ i l. refl)
packed bits all_valid e = absurd (cc (e))
packed bits all_null e = absurd (cc (e))
packed bits (by_array a) e = absurd (cc (e))

pub all_true : (n : ℕ) → replicate n true ≡ valid_rows all_valid n
all_true n = rows_by_bits all_valid (replicate n true) n (length-replicate n true)
    (λ i l. get_or-replicate n i true false l)

pub all_required : (n : ℕ) → replicate n true ≡ valid_rows required n
all_required n = rows_by_bits required (replicate n true) n (length-replicate n true)
    (λ i l. get_or-replicate n i true false l)

pub all_false : (n : ℕ) → replicate n false ≡ valid_rows all_null n
all_false n = rows_by_bits all_null (replicate n false) n (length-replicate n false)
    (λ i l. get_or-replicate n i false false l)

pub ruleset masks = (all_true, all_required, all_false, packed)

-- bits that are all true are the rows of which none is null
pub valid_bits : (bits : List Bool) → All (λ b. b ≡ true) bits →
    valid_rows all_valid (length bits) ≡ bits
valid_bits bits all = sym (rows_by_bits all_valid bits (length bits) refl (λ i l. all i false l))

pub required_bits : (bits : List Bool) → All (λ b. b ≡ true) bits →
    valid_rows required (length bits) ≡ bits
required_bits bits all = sym (rows_by_bits required bits (length bits) refl (λ i l. all i false l))

pub null_bits : (bits : List Bool) → All (λ b. b ≡ false) bits →
    valid_rows all_null (length bits) ≡ bits
null_bits bits all = sym (rows_by_bits all_null bits (length bits) refl (λ i l. all i false l))

pub own_bits : (v : Valid) (bits : List Bool) → v ≡ by_array (bools bits required) →
    valid_rows v (length bits) ≡ bits
own_bits v bits e = ap (λ w. valid_rows w (length bits)) e ∙ sym (packed bits required refl)

pub ruleset rows = (valid_bits, required_bits, null_bits, own_bits)

-- a boolean that can't be null
pub boolean_there : (c : Content) → IsContent (boolean_type non_nullable) c →
    c ≡ boolean (is_truth c)
boolean_there (boolean b) h = refl
boolean_there c h = absurd h

-- the array of a validity is a mask of the rows
pub mask_array : (a : Layout) (n : ℕ) → HasLength (by_array a) n → IsMaskArray (by_array a) n a
mask_array a n h = record {
  sound = h.0;
  len = h.1;
  kind = h.2;
  content = λ i l. boolean_there (content_at a i)
      (subst (λ k. IsContent k (content_at a i)) h.2
      (rows_valid a h.0 i (subst (λ m. i < m) (sym h.1) l)));
}

-- a bit and its row
pub bit_says : (v : Valid) (bits : List Bool) (n i : ℕ) → bits ≡ valid_rows v n → i < n →
    slice_index_or bits i false ≡ is_valid v i
bit_says v bits n i e l = ap (λ bs. slice_index_or bs i false) e ∙ get_or-map-range_with_len (is_valid v) 0 n i i false l (omega arith)

pub row_count : (v : Valid) (n : ℕ) → length (valid_rows v n) ≡ n
row_count v n = length-map-range_with_len (is_valid v) 0 n

pub one_more : (v : Valid) (n : ℕ) → valid_rows v (n + 1) ≡ valid_rows v n ++ is_valid v n ∷ []
one_more v n = map-range_with_len_more (is_valid v) 0 n n (omega arith)

-- for n rows, as the array has
pub counted : (a : Layout) (n : ℕ) (b : Bool) → HasLength (by_array a) n →
    (IsTrue b ↔ NoneNull (by_array a) (len_of a)) → IsTrue b ↔ NoneNull (by_array a) n
counted a n b h e = subst (λ m. IsTrue b ↔ NoneNull (by_array a) m) h.1 e

-- packed bits that are all true
pub all_packed : (a : Layout) (bits : List Bool) (b : Bool) → a ≡ bools bits required →
    (IsTrue b ↔ All (λ x. x ≡ true) bits) → IsTrue b ↔ NoneNull (by_array a) (len_of a)
all_packed a bits b e h = subst (λ x. IsTrue b ↔ NoneNull (by_array x) (len_of x)) (sym e) (
  λ t. λ i l. h.0 t i false l,
  λ none. h.1 (All-from_get_or (λ x. x ≡ true) bits false (λ i l. none i l)),
)

-- rows by their packed bits
pub bits_many : (v : Valid) (xs : List Bool) (n : ℕ) → HasLength v n →
    v ≡ by_array (bools xs required) → length xs ≡ n
bits_many v xs n h e =
    let w : HasLength (by_array (bools xs required)) n = subst (λ u. HasLength u n) e h in w.1

pub same_bits : (v w : Valid) (xs ys : List Bool) (n : ℕ) (b : Bool) → HasLength v n →
    v ≡ by_array (bools xs required) → w ≡ by_array (bools ys required) →
    (IsTrue b ↔ ((i : ℕ) → i < length xs → slice_index_or xs i false ≡ slice_index_or ys i false)) →
    (IsTrue b ↔ ((i : ℕ) → i < n → is_valid v i ≡ is_valid w i))
same_bits v w xs ys n b h e d same =
    let many : length xs ≡ n = bits_many v xs n h e in
    let there : (i : ℕ) → is_valid v i ≡ slice_index_or xs i false = λ i. ap (λ u. is_valid u i) e in
    let here : (i : ℕ) → is_valid w i ≡ slice_index_or ys i false = λ i. ap (λ u. is_valid u i) d in (
      λ t. λ i l. there i ∙ same.0 t i (subst (λ k. i < k) (sym many) l) ∙ sym (here i),
      λ all. same.1 (λ i l. sym (there i) ∙ all i (subst (λ k. i < k) many l) ∙ here i),
    )

pub ruleset alike = (bits_many)

-- an array of its bits has the same null rows
pub executed : (a : Layout) (n : ℕ) (bits : List Bool) (w : Valid) → HasLength (by_array a) n →
    bits ≡ valid_rows (by_array a) (len_of a) → w ≡ by_array (bools bits required) →
    IsRecast (by_array a) w nullable n
executed a n bits w h is e =
    let is_n : bits ≡ valid_rows (by_array a) n = subst (λ m. bits ≡ valid_rows (by_array a) m) h.1 is in
    let len : length bits ≡ n = ap length is_n ∙ row_count (by_array a) n in
    subst (λ u. IsRecast (by_array a) u nullable n) (sym e) (record {
      fits = (tt, len, refl);
      nullability = refl;
      rows = λ i l. bit_says (by_array a) bits n i is_n l;
    })

pub inverted : (a : Layout) (bits : List Bool) (w : Valid) →
    bits ≡ valid_rows (by_array a) (len_of a) → w ≡ by_array (bools (map not bits) required) →
    IsInverse (by_array a) w (len_of a)
inverted a bits w is e =
    let len : length bits ≡ len_of a = ap length is ∙ row_count (by_array a) (len_of a) in
    subst (λ u. IsInverse (by_array a) u (len_of a)) (sym e) (record {
      fits = (tt, length-map bits not ∙ len, refl);
      nullability = refl;
      rows = λ n i l. get_or-map not bits i false false (subst (λ m. i < m) (sym len) l)
          ∙ ap not (bit_says (by_array a) bits (len_of a) i is l);
    })

-- no row is null without null
pub required_by : (v : Valid) (i : ℕ) → nullability_by v ≡ non_nullable → is_valid v i ≡ true
required_by required i e = refl
required_by all_valid i e = absurd (cc (e))
required_by all_null i e = absurd (cc (e))
required_by (by_array a) i e = absurd (cc (e))

pub required_patched : (v q : Valid) (places : Layout) (n : ℕ) → nullability_by v ≡ non_nullable →
    nullability_by q ≡ non_nullable → IsPatched v q places required n
required_patched v q places n e f = record {
  fits = tt;
  nullability = sym (ap (λ m. either_nullable m (nullability_by q)) e ∙ f);
  kept = λ j l none. sym (required_by v j e);
  patched = λ j k l last. sym (required_by q k f);
}

-- overwritten bits are false exactly where a row is null
pub rows_patched : (v q w : Valid) (places : Layout) (n : ℕ) (old new : List Bool) →
    old ≡ valid_rows v n → length new ≡ length old →
    ((j : ℕ) → j < n → NoPlace places (len_of places) j →
    slice_index_or new j false ≡ slice_index_or old j false) →
    ((j k : ℕ) → j < n → IsLastPlace places (len_of places) j k →
    slice_index_or new j false ≡ is_valid q k) →
    HasLength w (length new) → nullability_by w ≡ nullable → valid_rows w (length new) ≡ new →
    either_nullable (nullability_by v) (nullability_by q) ≡ nullable → IsPatched v q places w n
rows_patched v q w places n old new is count kept over fits kind read wide =
    let len : length new ≡ n = count ∙ ap length is ∙ row_count v n in
    let says : (j : ℕ) → j < n → slice_index_or new j false ≡ is_valid w j =
    λ j l. bit_says w new n j (sym read ∙ ap (valid_rows w) len) l in
    record {
      fits = subst (HasLength w) len fits;
      nullability = kind ∙ sym wide;
      kept = λ j l none. sym (says j l) ∙ kept j l none ∙ bit_says v old n j is l;
      patched = λ j k l last. sym (says j l) ∙ over j k l last;
    }

pub ruleset patches = (required_patched)

pub either_null : (m n : Nullability) →
    ((is_nullable m || is_nullable n) ≡ true) ↔ (either_nullable m n ≡ nullable)
either_null nullable n = (λ e. refl, λ e. refl)
either_null non_nullable nullable = (λ e. refl, λ e. refl)
either_null non_nullable non_nullable = (λ e. absurd (cc (e)), λ e. absurd (cc (e)))
