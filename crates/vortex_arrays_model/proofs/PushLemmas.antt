-- The nulls of a struct array pushed into arrays of each layout.
use Rattle.std.proofs.Common.{◌≡◌, ◌<◌, ◌+◌, ◌*◌, ◌^◌, ℕ, ℤ, pos, Bool, true, false, cond, ◌&&◌, IsTrue, List, [], length, get_or, map, refl, sym, ap, subst, ◌∙◌, arith}
use Rattle.std.specs.List.{All, range_with_len}
use Rattle.std.proofs.lemmas.List.{get_or-map, length-map}
use Rattle.std.proofs.lemmas.List.FromFn.{length-range_with_len, get_or-range_with_len}
use Rattle.vortex_model.specs.LogicalType.{Nullability, non_nullable, nullable, LogicalType, boolean_type, integer_type, list, fixed_list, struct, IntKind, u64, Fields, nullability_of, either_nullable, with_nullability, nullable_inside}
use Rattle.vortex_model.specs.Content.{Content, null, boolean, integer, tuple}
use Rattle.vortex_model.specs.Valid.{InRange}
use Rattle.vortex_arrays_view.specs.Views.{value_of}
use Rattle.vortex_arrays_model.specs.Layout.{Strings, texts, byte_strings, Layout, bools, numbers, strings, dictionary, fixed_lists, list_views, records, Valid, required, all_valid, all_null, by_array, Columns, len_of, array_type_of, type_of_strings, fields_of, nullability_by, content_at, is_valid, row_at, pick, span, string_content, number_in, is_truth, IsInteger, IsCode, IsSound, HasLength}
use Rattle.vortex_arrays_model.specs.Column.{IsMasked, IsValidInBoth}
use Rattle.vortex_arrays_model.proofs.PicksLemmas.{no_flag}
use Rattle.vortex_arrays_model.proofs.SomeLemmas.{type_within, last_nullability}
use Rattle.vortex_arrays_model.proofs.CanonicalLemmas.{positions_fit, All-range}
use Rattle.vortex_arrays_model.proofs.ColumnLemmas.{nullability_within}

-- null where one of two is
cond_and : (a b : Bool) (c : Content) → cond (a && b) c null ≡ cond a (cond b c null) null
cond_and true b c = refl
cond_and false b c = refl

and_right : (a b : Bool) → IsTrue (a && b) → IsTrue b
and_right true b t = t
and_right false b t = no_flag t

met : (v w u : Valid) (n i : ℕ) (c : Content) → IsValidInBoth v w u n → i < n → cond (is_valid u i) c null ≡ cond (is_valid v i) (cond (is_valid w i) c null) null
met v w u n i c m l = ap (λ b. cond b c null) (m.bits i l) ∙ cond_and (is_valid v i) (is_valid w i) c

-- the type with both nullabilities
boolean_within : (n m : Nullability) → boolean_type (either_nullable n m) ≡ nullable_inside n (boolean_type m)
boolean_within non_nullable m = refl
boolean_within nullable m = refl

integer_within : (k : IntKind) (n m : Nullability) → integer_type k (either_nullable n m) ≡ nullable_inside n (integer_type k m)
integer_within k non_nullable m = refl
integer_within k nullable m = refl

strings_within : (s : Strings) (n m : Nullability) → type_of_strings s (either_nullable n m) ≡ nullable_inside n (type_of_strings s m)
strings_within s non_nullable m = refl
strings_within texts nullable m = refl
strings_within byte_strings nullable m = refl

fixed_list_within : (k : LogicalType) (s : ℕ) (n m : Nullability) → fixed_list k s (either_nullable n m) ≡ nullable_inside n (fixed_list k s m)
fixed_list_within k s non_nullable m = refl
fixed_list_within k s nullable m = refl

list_within : (k : LogicalType) (n m : Nullability) → list k (either_nullable n m) ≡ nullable_inside n (list k m)
list_within k non_nullable m = refl
list_within k nullable m = refl

struct_within : (fs : Fields) (n m : Nullability) → struct fs (either_nullable n m) ≡ nullable_inside n (struct fs m)
struct_within fs non_nullable m = refl
struct_within fs nullable m = refl

pub pushes_required : (b : Layout) → IsSound b → IsMasked required b b
pushes_required b s = record { sound = s; len = refl; kind = refl; content = λ i l. refl }

pub pushes_bools : (bs : List Bool) (v w u : Valid) → IsValidInBoth v w u (length bs) → IsMasked v (bools bs w) (bools bs u)
pushes_bools bs v w u m = record {
  sound = m.fits;
  len = refl;
  kind = ap boolean_type m.nullability ∙ boolean_within (nullability_by v) (nullability_by w);
  content = λ i l. met v w u (length bs) i (boolean (get_or bs i false)) m l;
}

pub pushes_numbers : (k : IntKind) (zs : List ℤ) (v w u : Valid) → All (InRange k) zs → IsValidInBoth v w u (length zs) → IsMasked v (numbers k zs w) (numbers k zs u)
pushes_numbers k zs v w u fit m = record {
  sound = (fit, m.fits);
  len = refl;
  kind = ap (integer_type k) m.nullability ∙ integer_within k (nullability_by v) (nullability_by w);
  content = λ i l. met v w u (length zs) i (integer (get_or zs i (pos 0))) m l;
}

pub pushes_strings : (s : Strings) (xs bs : List (List ℕ)) (v w u : Valid) → IsSound (strings s xs bs w) → IsValidInBoth v w u (length xs) → IsMasked v (strings s xs bs w) (strings s xs bs u)
pushes_strings s xs bs v w u h m = record {
  sound = ((λ i l t. h.0 i l (and_right (is_valid v i) (is_valid w i) (sym (m.bits i l) ∙ t))), m.fits);
  len = refl;
  kind = ap (type_of_strings s) m.nullability ∙ strings_within s (nullability_by v) (nullability_by w);
  content = λ i l. met v w u (length xs) i (string_content s (value_of (get_or xs i []) bs)) m l;
}

pub pushes_fixed_lists : (e : Layout) (s n : ℕ) (v w u : Valid) → IsSound (fixed_lists e s n w) → IsValidInBoth v w u n → IsMasked v (fixed_lists e s n w) (fixed_lists e s n u)
pushes_fixed_lists e s n v w u h m = record {
  sound = (h.0, h.1, m.fits);
  len = refl;
  kind = ap (fixed_list (array_type_of e) s) m.nullability ∙ fixed_list_within (array_type_of e) s (nullability_by v) (nullability_by w);
  content = λ i l. met v w u n i (tuple (span (λ j. content_at e j) (i * s) s)) m l;
}

pub pushes_list_views : (e o s : Layout) (f : Bool) (v w u : Valid) → IsSound (list_views e o s f w) → IsValidInBoth v w u (len_of o) → IsMasked v (list_views e o s f w) (list_views e o s f u)
pushes_list_views e o s f v w u h m = record {
  sound = (h.0, h.1, h.2, h.3, h.4, h.5, m.fits, h.7, h.8);
  len = refl;
  kind = ap (list (array_type_of e)) m.nullability ∙ list_within (array_type_of e) (nullability_by v) (nullability_by w);
  content = λ i l. met v w u (len_of o) i (tuple (span (λ j. content_at e j) (number_in (content_at o i)) (number_in (content_at s i)))) m l;
}

pub pushes_records : (cs : Columns) (n : ℕ) (v w u : Valid) → IsSound (records cs n w) → IsValidInBoth v w u n → IsMasked v (records cs n w) (records cs n u)
pushes_records cs n v w u h m = record {
  sound = (h.0, m.fits);
  len = refl;
  kind = ap (struct (fields_of cs)) m.nullability ∙ struct_within (fields_of cs) (nullability_by v) (nullability_by w);
  content = λ i l. met v w u n i (tuple (row_at cs i)) m l;
}

-- an integer type is still one
integer_still : (n : Nullability) (k : LogicalType) → IsInteger k → IsInteger (nullable_inside n k)
integer_still non_nullable k h = h
integer_still nullable (integer_type i m) h = tt
integer_still nullable k h = absurd h

code_still : (n : ℕ) (b : Bool) (c : Content) → IsCode n c → IsCode n (cond b c null)
code_still n true c h = h
code_still n false c h = tt

pick_if : (b : Bool) (c : Content) (f : ℕ → Content) → pick (cond b c null) f ≡ cond b (pick c f) null
pick_if true c f = refl
pick_if false c f = refl

dictionary_within : (n m : Nullability) (k : LogicalType) → with_nullability (either_nullable (either_nullable n m) (nullability_of k)) k ≡ nullable_inside n (with_nullability (either_nullable m (nullability_of k)) k)
dictionary_within non_nullable m k = refl
dictionary_within nullable m k = sym (last_nullability nullable (either_nullable m (nullability_of k)) k)

pub pushes_dictionary : (c d x : Layout) (f : Bool) (v : Valid) → IsSound (dictionary c x f) → IsMasked v c d → IsMasked v (dictionary c x f) (dictionary d x false)
pushes_dictionary c d x f v s p = record {
  sound = (
    p.sound,
    s.1,
    subst IsInteger (sym p.kind) (integer_still (nullability_by v) (array_type_of c) s.2),
    (λ i b.
        let l : i < len_of c = subst (λ m. i < m) p.len b in
        subst (IsCode (len_of x)) (sym (p.content i l)) (code_still (len_of x) (is_valid v i) (content_at c i) (s.3 i l))),
    (λ t. no_flag t),
  );
  len = p.len;
  kind = ap (λ n. with_nullability (either_nullable n (nullability_of (array_type_of x))) (array_type_of x)) (ap nullability_of p.kind ∙ nullability_within (nullability_by v) (array_type_of c)) ∙ dictionary_within (nullability_by v) (nullability_of (array_type_of c)) (array_type_of x);
  content = λ i l. ap (λ y. pick y (λ j. content_at x j)) (p.content i l) ∙ pick_if (is_valid v i) (content_at c i) (λ j. content_at x j);
}

-- into an array of any layout, by a dictionary of its indices
abbrev pub all_positions : ℕ → List ℤ
all_positions n = map pos (range_with_len 0 n)

many_positions : (n : ℕ) → length (all_positions n) ≡ n
many_positions n = length-map (range_with_len 0 n) pos ∙ length-range_with_len 0 n

position_at : (n i : ℕ) → i < n → get_or (all_positions n) i (pos 0) ≡ pos i
position_at n i l =
    let w : i < length (range_with_len 0 n) = subst (λ m. i < m) (sym (length-range_with_len 0 n)) l in
    get_or-map pos (range_with_len 0 n) i 0 (pos 0) w ∙ ap pos (get_or-range_with_len 0 n i 0 l ∙ (let e : 0 + i ≡ i = omega arith in e))

code_if : (n i : ℕ) (b : Bool) → i < n → IsCode n (cond b (integer (pos i)) null)
code_if n i true l = l
code_if n i false l = tt

pub pushes_by_positions : (b : Layout) (v : Valid) → IsSound b → HasLength v (len_of b) → len_of b < 2 ^ 64 → IsMasked v b (dictionary (numbers u64 (all_positions (len_of b)) v) b false)
pushes_by_positions b v s h small = record {
  sound = (
    (positions_fit (range_with_len 0 (len_of b)) (len_of b) (All-range 0 (len_of b) (len_of b) (omega arith)) small, subst (HasLength v) (sym (many_positions (len_of b))) h),
    s,
    tt,
    (λ i w.
        let l : i < len_of b = subst (λ m. i < m) (many_positions (len_of b)) w in
        subst (λ z. IsCode (len_of b) (cond (is_valid v i) (integer z) null)) (sym (position_at (len_of b) i l)) (code_if (len_of b) i (is_valid v i) l)),
    (λ t. no_flag t),
  );
  len = many_positions (len_of b);
  kind = type_within (nullability_by v) (array_type_of b);
  content = λ i l. ap (λ z. pick (cond (is_valid v i) (integer z) null) (λ j. content_at b j)) (position_at (len_of b) i l) ∙ pick_if (is_valid v i) (integer (pos i)) (λ j. content_at b j);
}

-- Two validities combined: one of them where the other allows it, or else an array of both.
pub meets_required : (w : Valid) (n : ℕ) → HasLength w n → IsValidInBoth required w w n
meets_required w n h = record { fits = h; nullability = refl; bits = λ i l. refl }

either_right : (n : Nullability) → n ≡ either_nullable n non_nullable
either_right non_nullable = refl
either_right nullable = refl

either_nullable_right : (n : Nullability) → nullable ≡ either_nullable n nullable
either_nullable_right non_nullable = refl
either_nullable_right nullable = refl

and_true : (b : Bool) → b ≡ (b && true)
and_true true = refl
and_true false = refl

and_false : (b : Bool) → false ≡ (b && false)
and_false true = refl
and_false false = refl

pub meets_with_required : (v : Valid) (n : ℕ) → HasLength v n → IsValidInBoth v required v n
meets_with_required v n h = record { fits = h; nullability = either_right (nullability_by v); bits = λ i l. and_true (is_valid v i) }

pub meets_all_valid : (n : ℕ) → IsValidInBoth all_valid all_valid all_valid n
meets_all_valid n = record { fits = tt; nullability = refl; bits = λ i l. refl }

pub meets_all_valid_array : (a : Layout) (n : ℕ) → HasLength (by_array a) n → IsValidInBoth all_valid (by_array a) (by_array a) n
meets_all_valid_array a n h = record { fits = h; nullability = refl; bits = λ i l. refl }

pub meets_array_all_valid : (a : Layout) (n : ℕ) → HasLength (by_array a) n → IsValidInBoth (by_array a) all_valid (by_array a) n
meets_array_all_valid a n h = record { fits = h; nullability = refl; bits = λ i l. and_true (is_truth (content_at a i)) }

pub meets_all_null : (w : Valid) (n : ℕ) → IsValidInBoth all_null w all_null n
meets_all_null w n = record { fits = tt; nullability = refl; bits = λ i l. refl }

pub meets_with_all_null : (v : Valid) (n : ℕ) → IsValidInBoth v all_null all_null n
meets_with_all_null v n = record { fits = tt; nullability = either_nullable_right (nullability_by v); bits = λ i l. and_false (is_valid v i) }

pub meets_arrays : (a b : Layout) (bs : List Bool) (n : ℕ) → length bs ≡ n → ((i : ℕ) → i < n → get_or bs i false ≡ (is_truth (content_at a i) && is_truth (content_at b i))) → IsValidInBoth (by_array a) (by_array b) (by_array (bools bs required)) n
meets_arrays a b bs n e h = record { fits = (tt, e, refl); nullability = refl; bits = λ i l. h i l }

pub ruleset pushed = (pushes_required, pushes_bools, pushes_numbers, pushes_strings, pushes_fixed_lists, pushes_list_views, pushes_records, pushes_dictionary)

pub ruleset meets = (meets_required, meets_with_required, meets_all_valid, meets_all_valid_array, meets_array_all_valid, meets_all_null, meets_with_all_null, meets_arrays)
