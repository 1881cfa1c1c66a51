-- Integers reinterpreted as those of another type: their types, and their validity.
use Rattle.std.proofs.Common.{◌≡◌, true, false, Some, None, ap, subst, ◌∙◌}
use Rattle.std.proofs.lemmas.Cmp.{nat_eq_equiv}
use Rattle.std.specs.Cmp.{first_so}
use Rattle.std.specs.Cmp.Derive.{both_true}
use Rattle.vortex_model.specs.LogicalType.{LogicalType, IntKind, integer_type, nullability_of, eq_int_kind, int_kind_number}
use Rattle.vortex_model.specs.Content.{Raw, raw_null, raw_number, content_of, is_null}
use Rattle.vortex_model.specs.Valid.{valid, in_range}
use Rattle.vortex_model.proofs.Tests.{int_kind_so, int_so}
use Rattle.vortex_dtype_ptype.specs.Numbers.{NumberKind, integral, floating, type_of_numbers, reach_of}
use Rattle.vortex_dtype_core.proofs.Views as type_views
use Rattle.vortex_scalar_value.specs.Numbers.{integer_of, kind_of_number, raw_of_number, IsAsWide, HaveSameBytes}
use Rattle.vortex_scalar_value.specs.Parts.{as_number}
use Rattle.vortex_scalar_value.specs.declared.pvalue.PValue.{PValue}
use Rattle.vortex_scalar_value.proofs.Nulls.{never_null}
use Rattle.vortex_scalar_core.specs.Reinterpreted.{is_as_wide, HaveTheSameBytes}

pub null_stays : (k : LogicalType) (t : NumberKind) → is_as_wide k t ≡ true → valid k raw_null ≡ true → valid (type_of_numbers t (nullability_of k)) raw_null ≡ true
null_stays (integer_type i n) (integral j) w v = v
null_stays (integer_type i n) (floating f) w v = absurd (cc (w))
null_stays k t w v = absurd (cc (w))

-- a valid integer has a type of the same width
pub wide_number : (k : LogicalType) (t : NumberKind) (r : Raw) (p : PValue) → is_as_wide k t ≡ true → valid k r ≡ true → Some (raw_of_number p) ≡ as_number r → IsAsWide (kind_of_number p) t
wide_number (integer_type i n) (integral j) (raw_number l z) p w v e =
    let kinds : kind_of_number p ≡ l = cc (e) in
    let same : l ≡ i = int_kind_so l i (first_so (eq_int_kind l i) (in_range i z) v) in
    ap reach_of (kinds ∙ same) ∙ int_so (reach_of i) (reach_of j) w
wide_number (integer_type i n) (floating f) r p w v e = absurd (cc (w))
wide_number (integer_type i n) (integral j) r p w v e = absurd (cc (e))
wide_number k t r p w v e = absurd (cc (w))

-- a valid value is null or an integer
pub is_number : (k : LogicalType) (t : NumberKind) (r : Raw) → is_as_wide k t ≡ true → valid k r ≡ true → is_null (content_of r) ≡ false → as_number r ≡ None → ⊥
is_number k t raw_null w v h e = absurd (cc (h))
is_number k t (raw_number l z) w v h e = absurd (cc (e))
is_number (integer_type i n) t r w v h e = absurd (cc (v))
is_number k t r w v h e = absurd (cc (w))

pub eq_bytes : (r : Raw) (p q : PValue) → Some (raw_of_number p) ≡ as_number r → HaveSameBytes (kind_of_number p) (integer_of p) (kind_of_number q) (integer_of q) → HaveTheSameBytes r (raw_of_number q)
eq_bytes (raw_number l z) p q e h =
    let kinds : kind_of_number p ≡ l = cc (e) in
    let numbers : integer_of p ≡ z = cc (e) in
    subst (λ u. HaveSameBytes l u (kind_of_number q) (integer_of q)) numbers (subst (λ u. HaveSameBytes u (integer_of p) (kind_of_number q) (integer_of q)) kinds h)
eq_bytes r p q e h = absurd (cc (e))

type_itself : (i : IntKind) → eq_int_kind i i ≡ true
type_itself i = nat_eq_equiv.refl (int_kind_number i)

pub number_fits : (k : LogicalType) (t : NumberKind) (q : PValue) → integral (kind_of_number q) ≡ t → in_range (kind_of_number q) (integer_of q) ≡ true → valid (type_of_numbers t (nullability_of k)) (raw_of_number q) ≡ true
number_fits k t q e h = subst (λ u. valid (type_of_numbers u (nullability_of k)) (raw_of_number q) ≡ true) e (both_true (type_itself (kind_of_number q)) h)

pub ruleset types = (type_views.one_level)

pub ruleset values = (never_null, null_stays, wide_number, is_number, eq_bytes, number_fits)
