-- Zeros as they are made, part by part.
use Rattle.std.proofs.Common.{◌≡◌, ◌<◌, ◌≤◌, ◌+◌, ◌++◌, refl, sym, ap, ◌∙◌, ℕ, zero, suc, true, List, [], ◌∷◌, length, take, get_or, Option, Some, None, add-one, arith}
use Rattle.std.proofs.lemmas.List.{take_more, take_all}
use Rattle.vortex_model.specs.LogicalType.{LogicalType, Nullability}
use Rattle.vortex_model.specs.Content.{Raw, Raws, no_raws, raw_first}
use Rattle.vortex_model.specs.Valid.{valid}
use Rattle.vortex_dtype_ptype.specs.Numbers.{NumberKind, integral, floating, type_of_numbers}
use Rattle.vortex_dtype_core.specs.View.{type_of, field_of, fields_of}
use Rattle.vortex_dtype_core.specs.declared.struct_fields.StructField.{StructField}
use Rattle.vortex_dtype_core.proofs.Views as types
use Rattle.vortex_dtype_core.proofs.Views.{field_of-parts}
use Rattle.vortex_scalar_value.specs.View.{raw_of, raw_in, raws_in}
use Rattle.vortex_scalar_value.specs.declared.scalar_value.ScalarValue.{ScalarValue}
use Rattle.vortex_scalar_value.proofs.Views.{one_level}
use Rattle.vortex_scalar_convert.specs.defaults.Zero.{before, times, zero_of, zeros_of}
use Rattle.vortex_scalar_convert.proofs.defaults.Zeros.{zeros_are_zero, opened}

-- the zero of an integer type doesn't depend on nullability
pub zero_of-numbers : (k : NumberKind) (n m : Nullability) → zero_of (type_of_numbers k n) ≡ zero_of (type_of_numbers k m)
zero_of-numbers (integral i) n m = refl
zero_of-numbers (floating f) n m = refl

pub ruleset values = (types.one_level, types.extension_type-parts, one_level, zero_of-numbers)

pub ruleset numbers = (one_level)

pub zero_valid : (k : LogicalType) (v : ScalarValue) → Some (raw_of v) ≡ zero_of k → valid k (raw_of v) ≡ true
zero_valid k v e = (zeros_are_zero k (raw_of v) (sym e)).0

pub ruleset made = (zero_valid)

-- one more field
parted : (r q : Raw) (rs qs : Raws) → raw_first r rs ≡ raw_first q qs → (r ≡ q) × (rs ≡ qs)
parted r q rs qs e = (cc e, cc e)

none_first : (r : Raw) (rs : Raws) → raw_first r rs ≡ no_raws → ⊥
none_first r rs e = absurd (cc e)

some_none : (r : Raw) (qs : Raws) → Some no_raws ≡ Some (raw_first r qs) → ⊥
some_none r qs e = absurd (cc e)

zeros_of-more : (fs : List StructField) (vs : List (Option ScalarValue)) (f : StructField) (v : ScalarValue) →
    zeros_of (fields_of fs) ≡ Some (raws_in vs) → zero_of (type_of f.dtype) ≡ Some (raw_of v) → zeros_of (fields_of (fs ++ f ∷ [])) ≡ Some (raws_in (vs ++ Some v ∷ []))
zeros_of-more [] [] f v h e = ap (λ p. before (zero_of p.1) (Some no_raws)) (field_of-parts f) ∙ ap (λ o. before o (Some no_raws)) e
zeros_of-more [] (w ∷ vs) f v h e = absurd (some_none (raw_in w) (raws_in vs) h)
zeros_of-more (g ∷ fs) [] f v h e =
    let parts = opened (zero_of (field_of g).1) (zeros_of (fields_of fs)) no_raws h in
    absurd (none_first parts.0 parts.1 parts.4)
zeros_of-more (g ∷ fs) (w ∷ vs) f v h e =
    let parts = opened (zero_of (field_of g).1) (zeros_of (fields_of fs)) (raw_first (raw_in w) (raws_in vs)) h in
    let same = parted parts.0 (raw_in w) parts.1 (raws_in vs) parts.4 in
    let rest = zeros_of-more fs vs f v (parts.3 ∙ ap (λ rs. Some rs) same.1) e in
    ap (λ o. before o (zeros_of (fields_of (fs ++ f ∷ [])))) (parts.2 ∙ ap (λ r. Some r) same.0) ∙ ap (before (Some (raw_in w))) rest

pub zeros_next : (fs : List StructField) (vs : List (Option ScalarValue)) (i : ℕ) (f : StructField) (v : ScalarValue) → i < length fs → f ≡ get_or fs i f →
    zeros_of (fields_of (take i fs)) ≡ Some (raws_in vs) → Some (raw_of v) ≡ zero_of (type_of f.dtype) → zeros_of (fields_of (take (i + 1) fs)) ≡ Some (raws_in (vs ++ Some v ∷ []))
zeros_next fs vs i f v h g m e =
    ap (λ gs. zeros_of (fields_of gs)) (take_more fs i f h ∙ ap (λ u. take i fs ++ u ∷ []) (sym g)) ∙ zeros_of-more (take i fs) vs f v m (sym e)

pub zeros_all : (fs : List StructField) (vs : List (Option ScalarValue)) (i : ℕ) → length fs ≤ i → zeros_of (fields_of (take i fs)) ≡ Some (raws_in vs) → zeros_of (fields_of fs) ≡ Some (raws_in vs)
zeros_all fs vs i h m = sym (ap (λ gs. zeros_of (fields_of gs)) (take_all i fs h)) ∙ m

-- a field without a zero
before-none : (o : Option Raw) → before o None ≡ None
before-none None = refl
before-none (Some r) = refl

pub zeros_none : (fs : List StructField) (i : ℕ) (f : StructField) → i < length fs → f ≡ get_or fs i f → None ≡ zero_of (type_of f.dtype) → None ≡ zeros_of (fields_of fs)
zeros_none [] i f h g e = absurd (omega arith)
zeros_none (a ∷ fs) zero f h g e =
    sym (ap (λ p. before (zero_of p.1) (zeros_of (fields_of fs))) (field_of-parts a) ∙ ap (λ b. before (zero_of (type_of b.dtype)) (zeros_of (fields_of fs))) (sym g) ∙ ap (λ o. before o (zeros_of (fields_of fs))) (sym e))
zeros_none (a ∷ fs) (suc i) f h g e =
    sym (ap (before (zero_of (field_of a).1)) (sym (zeros_none fs i f (omega arith) g e)) ∙ before-none (zero_of (field_of a).1))

-- one more copy
times_suc : (r : Raw) (n : ℕ) (vs : List (Option ScalarValue)) (v : ScalarValue) → raw_of v ≡ r → times n (Some r) ≡ Some (raws_in vs) → times (suc n) (Some r) ≡ Some (raws_in (vs ++ Some v ∷ []))
times_suc r zero [] v e h = ap (λ q. Some (raw_first q no_raws)) (sym e)
times_suc r zero (w ∷ vs) v e h = absurd (some_none (raw_in w) (raws_in vs) h)
times_suc r (suc n) [] v e h =
    let parts = opened (Some r) (times n (Some r)) no_raws h in
    absurd (none_first parts.0 parts.1 parts.4)
times_suc r (suc n) (w ∷ vs) v e h =
    let parts = opened (Some r) (times n (Some r)) (raw_first (raw_in w) (raws_in vs)) h in
    let same = parted parts.0 (raw_in w) parts.1 (raws_in vs) parts.4 in
    let rest = times_suc r n vs v e (parts.3 ∙ ap (λ rs. Some rs) same.1) in
    ap (before (Some r)) rest ∙ ap (λ o. before o (Some (raws_in (vs ++ Some v ∷ [])))) (parts.2 ∙ ap (λ q. Some q) same.0)

pub times_next : (r : Raw) (n : ℕ) (vs : List (Option ScalarValue)) (v : ScalarValue) → raw_of v ≡ r → times n (Some r) ≡ Some (raws_in vs) → times (n + 1) (Some r) ≡ Some (raws_in (vs ++ Some v ∷ []))
times_next r n vs v e h = ap (λ m. times m (Some r)) (add-one n) ∙ times_suc r n vs v e h
