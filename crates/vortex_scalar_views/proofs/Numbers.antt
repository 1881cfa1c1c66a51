-- Valid integers, and results of operators.
use Rattle.std.proofs.Common.{◌≡◌, ◌&&◌, true, false, Option, Some, None, option_map, refl, sym, ap, ◌∙◌}
use Rattle.std.specs.Hash as fed
use Rattle.std.specs.Option.{option_eq, option_cmp}
use Rattle.std.specs.Ordering.{on, int_eq, int_cmp}
use Rattle.std.specs.Cmp.{second_so, first_so}
use Rattle.vortex_model.specs.LogicalType.{LogicalType, IntKind, nullable, non_nullable, integer_type, float, is_nullable, nullability_of, eq_int_kind}
use Rattle.vortex_model.specs.Content.{Raw, raw_null, raw_number}
use Rattle.vortex_model.specs.Valid.{valid, in_range}
use Rattle.vortex_model.proofs.Tests.{int_kind_so}
use Rattle.vortex_dtype_ptype.specs.Numbers.{integral}
use Rattle.vortex_dtype_core.specs.Parts.{is_primitive_type, numbers_in_type}
use Rattle.vortex_scalar_value.specs.Numbers.{raw_of_number, integer_of, kind_of_number}
use Rattle.vortex_scalar_value.specs.Parts.{as_number, whole_number_in}
use Rattle.vortex_scalar_value.specs.declared.pvalue.PValue.{PValue}
use Rattle.vortex_scalar_value.proofs.Views as values
use Rattle.vortex_scalar_views.specs.Forms.{raw_of_integer}
use Rattle.vortex_scalar_views.specs.Numeric.{kind_by}

pub number_held : (k : LogicalType) (r : Raw) (o : Option PValue) → is_primitive_type k ≡ true → valid k r ≡ true → option_map raw_of_number o ≡ as_number r → raw_of_integer o ≡ r
number_held k raw_null None h v e = refl
number_held k raw_null (Some p) h v e = absurd (cc (e))
number_held k (raw_number i z) None h v e = absurd (cc (e))
number_held k (raw_number i z) (Some p) h v e = cc (e)
number_held (integer_type i n) r o h v e = absurd (cc (v))
number_held (float f n) r o h v e = absurd (cc (v))
number_held k r o h v e = absurd (cc (h))

pub as_number-raw_of_integer : (o : Option PValue) → as_number (raw_of_integer o) ≡ option_map raw_of_number o
as_number-raw_of_integer None = refl
as_number-raw_of_integer (Some p) = refl

-- a valid integer is in the range of its type
pub number_fits : (k : LogicalType) (v : PValue) (i : IntKind) → numbers_in_type k ≡ Some (integral i) → valid k (raw_of_integer (Some v)) ≡ true → in_range i (integer_of v) ≡ true
number_fits (integer_type j n) v i e h =
    let same : j ≡ i = cc (e) in
    ap (λ m. in_range m (integer_of v)) (sym same) ∙ second_so (eq_int_kind (kind_of_number v) j) (in_range j (integer_of v)) h
number_fits (float f n) v i e h = absurd (cc (e))
number_fits k v i e h = absurd (cc (e))

pub ruleset held = (values.one_level, number_held, as_number-raw_of_integer, number_fits)

-- ---- types

pub kind_by-nullable : (k l : LogicalType) → is_primitive_type k ≡ true → numbers_in_type k ≡ numbers_in_type l → is_nullable (nullability_of k) ≡ true → kind_by k l ≡ k
kind_by-nullable (integer_type i nullable) l h e n = refl
kind_by-nullable (integer_type i non_nullable) l h e n = absurd (cc (n))
kind_by-nullable (float f nullable) l h e n = refl
kind_by-nullable (float f non_nullable) l h e n = absurd (cc (n))
kind_by-nullable k l h e n = absurd (cc (h))

pub kind_by-other : (k l : LogicalType) → is_primitive_type k ≡ true → numbers_in_type k ≡ numbers_in_type l → is_nullable (nullability_of k) ≡ false → kind_by k l ≡ l
kind_by-other (integer_type i nullable) l h e n = absurd (cc (n))
kind_by-other (integer_type i non_nullable) (integer_type j m) h e n = cc (e)
kind_by-other (integer_type i non_nullable) (float f m) h e n = absurd (cc (e))
kind_by-other (integer_type i non_nullable) l h e n = absurd (cc (e))
kind_by-other (float f nullable) l h e n = absurd (cc (n))
kind_by-other (float f non_nullable) (float g m) h e n = cc (e)
kind_by-other (float f non_nullable) (integer_type j m) h e n = absurd (cc (e))
kind_by-other (float f non_nullable) l h e n = absurd (cc (e))
kind_by-other k l h e n = absurd (cc (h))

pub ruleset typed = (kind_by-nullable, kind_by-other)

-- ---- results of operators

pub kind_by-primitive : (k l : LogicalType) → is_primitive_type k ≡ true → is_primitive_type (kind_by k l) ≡ true
kind_by-primitive (integer_type i n) l h = refl
kind_by-primitive (float f n) l h = refl
kind_by-primitive k l h = absurd (cc (h))

pub made_valid : (k l d : LogicalType) (p m : PValue) → d ≡ kind_by k l → is_primitive_type k ≡ true → valid k (raw_of_integer (Some p)) ≡ true → kind_of_number m ≡ kind_of_number p → in_range (kind_of_number m) (integer_of m) ≡ true → valid d (raw_of_number m) ≡ true
made_valid (integer_type j n) l d p m e h v s f =
    let shared : eq_int_kind (kind_of_number m) j ≡ true = ap (λ i. eq_int_kind i j) s ∙ first_so (eq_int_kind (kind_of_number p) j) (in_range j (integer_of p)) v in
    let within : in_range j (integer_of m) ≡ true = ap (λ i. in_range i (integer_of m)) (sym (int_kind_so (kind_of_number m) j shared)) ∙ f in
    ap (λ c. valid c (raw_of_number m)) e ∙ ap (λ b. b && in_range j (integer_of m)) shared ∙ within
made_valid (float f n) l d p m e h v s g = absurd (cc (v))
made_valid k l d p m e h v s f = absurd (cc (h))

pub ruleset combined = (values.one_level, typed, kind_by-primitive, made_valid)

-- ---- equality, order and hash

number_at : (o : Option PValue) (r : Raw) → option_map raw_of_number o ≡ as_number r → option_map integer_of o ≡ whole_number_in r
number_at None (raw_number i z) e = absurd (cc (e))
number_at None r e = refl
number_at (Some p) (raw_number i z) e = cc (e)
number_at (Some p) r e = absurd (cc (e))

numbers_equal : (p q : Option PValue) → option_eq (on integer_of int_eq) p q ≡ option_eq int_eq (option_map integer_of p) (option_map integer_of q)
numbers_equal None None = refl
numbers_equal None (Some q) = refl
numbers_equal (Some p) None = refl
numbers_equal (Some p) (Some q) = refl

numbers_stand : (p q : Option PValue) → option_cmp (on integer_of int_cmp) p q ≡ option_cmp int_cmp (option_map integer_of p) (option_map integer_of q)
numbers_stand None None = refl
numbers_stand None (Some q) = refl
numbers_stand (Some p) None = refl
numbers_stand (Some p) (Some q) = refl

numbers_feed : (p : Option PValue) → fed.option (λ v. fed.i128 (integer_of v)) p ≡ fed.option fed.i128 (option_map integer_of p)
numbers_feed None = refl
numbers_feed (Some p) = refl

pub equal_seen : (p q : Option PValue) (r s : Raw) → option_map raw_of_number p ≡ as_number r → option_map raw_of_number q ≡ as_number s → option_eq (on integer_of int_eq) p q ≡ option_eq int_eq (whole_number_in r) (whole_number_in s)
equal_seen p q r s e f = numbers_equal p q ∙ (λ i. option_eq int_eq (number_at p r e i) (number_at q s f i))

pub order_seen : (p q : Option PValue) (r s : Raw) → option_map raw_of_number p ≡ as_number r → option_map raw_of_number q ≡ as_number s → option_cmp (on integer_of int_cmp) p q ≡ option_cmp int_cmp (whole_number_in r) (whole_number_in s)
order_seen p q r s e f = numbers_stand p q ∙ (λ i. option_cmp int_cmp (number_at p r e i) (number_at q s f i))

pub hash_seen : (p : Option PValue) (r : Raw) → option_map raw_of_number p ≡ as_number r → fed.option (λ v. fed.i128 (integer_of v)) p ≡ fed.option fed.i128 (whole_number_in r)
hash_seen p r e = numbers_feed p ∙ ap (λ o. fed.option fed.i128 o) (number_at p r e)

pub ruleset seen = (equal_seen, order_seen, hash_seen)
