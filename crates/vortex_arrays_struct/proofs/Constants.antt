-- One value in each row.
use Rattle.std.proofs.Common.{◌≡◌, ◌<◌, ℕ, ℤ, pos, zero, suc, Bool, true, false, cond, List, length, get_or, map, replicate, Some, refl, sym, ap, subst, ◌∙◌, arith, lit<}
use Rattle.std.specs.List.{All}
use Rattle.std.proofs.lemmas.Int.{ints}
use Rattle.std.proofs.lemmas.List.{length-map, length-replicate, get_or-map, get_or-replicate}
use Rattle.std.proofs.lemmas.Bool.{and_parts}
use Rattle.vortex_model.specs.LogicalType.{Nullability, non_nullable, nullable, LogicalType, struct, Fields, no_fields, field, u8, nullability_of, either_nullable, with_nullability, nullable_inside, is_nullable}
use Rattle.vortex_model.specs.Content.{Content, null, integer, content_of, Raw, raw_null, raw_tuple, Raws, no_raws, raw_first}
use Rattle.vortex_model.specs.Path.{field_at}
use Rattle.vortex_model.specs.Valid.{InRange, valid, fields_have}
use Rattle.vortex_dtype_core.specs.Parts.{fields_in_type}
use Rattle.vortex_scalar_ops.proofs.Nullable.{nullable_has, null_is_there}
use Rattle.vortex_arrays_model.specs.Layout.{numbers, constant, dictionary, Valid, nullability_by, is_valid, pick, IsCode, IsSound, HasLength}
use Rattle.vortex_arrays_model.specs.Column.{IsMasked}
use Rattle.vortex_arrays_model.proofs.PicksLemmas.{no_flag}
use Rattle.vortex_arrays_model.proofs.SomeLemmas.{type_within}
use Rattle.vortex_scalar_value.specs.Parts.{raw_nth, raw_part}
use Rattle.vortex_arrays_struct.specs.ZeroCodes.{zero_codes}

-- Nulls pushed into a constant: codes 0 of one value.
abbrev zeros_of : ℕ → List ℤ
zeros_of n = map pos (replicate n 0)

many_zeros : (n : ℕ) → length (zeros_of n) ≡ n
many_zeros n = length-map (replicate n 0) pos ∙ length-replicate n 0

zero_at : (n i : ℕ) (d : ℤ) → i < n → get_or (zeros_of n) i d ≡ pos 0
zero_at n i d l =
    let w : i < length (replicate n 0) = subst (λ m. i < m) (sym (length-replicate n 0)) l in
    get_or-map pos (replicate n 0) i 0 d w ∙ ap pos (get_or-replicate n i 0 0 l)

zeros_fit : (n : ℕ) → All (InRange u8) (zeros_of n)
zeros_fit n = λ k d l. rw (zero_at n k d (subst (λ m. k < m) (many_zeros n) l)) (record { from = omega (arith, ints); to = omega (arith, ints) })

pub zeros_sound : (n : ℕ) (v : Valid) → HasLength v n → IsSound (zero_codes n v)
zeros_sound n v h = (zeros_fit n, subst (HasLength v) (sym (many_zeros n)) h)

code_zero : (b : Bool) → IsCode 1 (cond b (integer (pos 0)) null)
code_zero true = lit< tt
code_zero false = tt

pick_zero : (b : Bool) (c : Content) → pick (cond b (integer (pos 0)) null) (λ j. c) ≡ cond b c null
pick_zero true c = refl
pick_zero false c = refl

pub pushes_constant : (k : LogicalType) (r : Raw) (n : ℕ) (v : Valid) → IsSound (constant k r n) → HasLength v n → IsMasked v (constant k r n) (dictionary (zero_codes n v) (constant k r 1) false)
pushes_constant k r n v s h = record {
  sound = (
    zeros_sound n v h,
    s,
    tt,
    (λ i w.
        let l : i < n = subst (λ m. i < m) (many_zeros n) w in
        subst (λ z. IsCode 1 (cond (is_valid v i) (integer z) null)) (sym (zero_at n i (pos 0) l)) (code_zero (is_valid v i))),
    (λ t. no_flag t),
  );
  len = many_zeros n;
  kind = type_within (nullability_by v) k;
  content = λ i l. ap (λ z. pick (cond (is_valid v i) (integer z) null) (λ j. content_of r)) (zero_at n i (pos 0) l) ∙ pick_zero (is_valid v i) (content_of r);
}

pub constant_pushed : (k : LogicalType) (r : Raw) (n : ℕ) (v : Valid) → IsSound (constant k r n) → HasLength v n → IsSound (dictionary (zero_codes n v) (constant k r 1) false)
constant_pushed k r n v s h = (pushes_constant k r n v s h).sound

pub codes_sound : (xs : List ℕ) (n : ℕ) (v w : Valid) → xs ≡ replicate n 0 → w ≡ v → HasLength v n → IsSound (numbers u8 (map pos xs) w)
codes_sound xs n v w e f h = subst (λ u. IsSound (numbers u8 (map pos xs) u)) (sym f) (subst (λ ys. IsSound (numbers u8 (map pos ys) v)) (sym e) (zeros_sound n v h))

pub ruleset zeros = (codes_sound)

pub ruleset pushed = (pushes_constant, constant_pushed)

widened : (n : Nullability) (k : LogicalType) (r : Raw) → valid k r ≡ true → valid (nullable_inside n k) r ≡ true
widened non_nullable k r h = h
widened nullable k r h = nullable_has k r h

null_of_null : (n : Nullability) (k : LogicalType) → is_nullable n ≡ true → valid (nullable_inside n k) raw_null ≡ true
null_of_null non_nullable k h = absurd (cc (h))
null_of_null nullable k h = null_is_there k

valid_at : (fs : Fields) (rs : Raws) (i : ℕ) (t : LogicalType) → fields_have fs rs ≡ true → Some t ≡ field_at fs i → valid t (raw_nth rs i) ≡ true
valid_at no_fields rs i t h e = absurd (cc (e))
valid_at (field x k fs) no_raws i t h e = absurd (cc (h))
valid_at (field x k fs) (raw_first r rs) zero t h e =
    let same : t ≡ k = cc (e) in
    ap (λ l. valid l r) same ∙ (and_parts (valid k r) (fields_have fs rs) h).0
valid_at (field x k fs) (raw_first r rs) (suc i) t h e = valid_at fs rs i t (and_parts (valid k r) (fields_have fs rs) h).1 e

part_valid : (fs : Fields) (n : Nullability) (r : Raw) (i : ℕ) (t : LogicalType) → valid (struct fs n) r ≡ true → Some t ≡ field_at fs i → valid (nullable_inside n t) (raw_part r i) ≡ true
part_valid fs n raw_null i t h e = null_of_null n t h
part_valid fs n (raw_tuple rs) i t h e = widened n t (raw_nth rs i) (valid_at fs rs i t h e)
part_valid fs n r i t h e = absurd (cc (h))

swapped : (n m : Nullability) → either_nullable n m ≡ either_nullable m n
swapped non_nullable non_nullable = refl
swapped non_nullable nullable = refl
swapped nullable non_nullable = refl
swapped nullable nullable = refl

-- the type of a field that is null also where the struct is
pub within_record : (n : Nullability) (t : LogicalType) → with_nullability (either_nullable (nullability_of t) n) t ≡ nullable_inside n t
within_record n t = ap (λ m. with_nullability m t) (swapped (nullability_of t) n) ∙ type_within n t

pub field_valid : (k : LogicalType) (fs : Fields) (r : Raw) (i : ℕ) (t : LogicalType) → Some fs ≡ fields_in_type k → Some t ≡ field_at fs i → valid k r ≡ true → valid (with_nullability (either_nullable (nullability_of t) (nullability_of k)) t) (raw_part r i) ≡ true
field_valid (struct gs n) fs r i t e f h =
    let same : fs ≡ gs = cc (e) in
    ap (λ l. valid l (raw_part r i)) (within_record n t) ∙ part_valid gs n r i t h (f ∙ ap (λ g. field_at g i) same)
field_valid k fs r i t e f h = absurd (cc (e))
