-- Statements of the laws of zeros and defaults.
use Rattle.std.specs.Prelude.{◌≡◌, Bool, true, false, ◌&&◌, Some, is_some}
use Rattle.vortex_model.specs.LogicalType.{LogicalType, null_only, float, decimal, list, fixed_list, mapping, struct, union, variant, extension, Fields, no_fields, field, Variants, no_variants, choice, is_nullable, nullability_of}
use Rattle.vortex_model.specs.Content.{Raw, content_of, is_null}
use Rattle.vortex_model.specs.Valid.{valid}
use Rattle.vortex_scalar_ops.specs.Equality.{has_variant}
use Rattle.vortex_scalar_convert.specs.defaults.Zero.{zero_of, default_of, is_zero_value}

-- a zero is valid for its type, isn't null, and passes the test for zero
abbrev pub ZerosAreZero : Type 0
ZerosAreZero = (k : LogicalType) (r : Raw) → zero_of k ≡ Some r → (valid k r ≡ true) ×
    (is_null (content_of r) ≡ false) × (is_zero_value k r ≡ true)

-- for a type without `Variant` at any level, only the zero passes the test
abbrev pub OnlyZerosAreZero : Type 0
OnlyZerosAreZero = (k : LogicalType) (r : Raw) → has_variant k ≡ false → valid k r ≡ true →
    is_zero_value k r ≡ true → zero_of k ≡ Some r

-- a default is valid for its type, and is null exactly where the type is nullable
abbrev pub DefaultsAreValues : Type 0
DefaultsAreValues = (k : LogicalType) (r : Raw) → default_of k ≡ Some r → (valid k r ≡ true) ×
    (is_null (content_of r) ≡ is_nullable (nullability_of k))

-- neither the type nor a type inside is `Null`, a float, a decimal, `Variant` or a union without
-- variants
abbrev mutual
  pub can_be_zero : LogicalType → Bool
  can_be_zero null_only = false
  can_be_zero (float f n) = false
  can_be_zero (decimal p s n) = false
  can_be_zero (variant n) = false
  can_be_zero (list k n) = can_be_zero k
  can_be_zero (fixed_list k m n) = can_be_zero k
  can_be_zero (mapping k v s n) = can_be_zero k && can_be_zero v
  can_be_zero (struct fs n) = fields_can_be_zero fs
  can_be_zero (union vs n) = choices_can_be_zero vs
  can_be_zero (extension id meta k) = can_be_zero k
  can_be_zero k = true

  pub fields_can_be_zero : Fields → Bool
  fields_can_be_zero no_fields = true
  fields_can_be_zero (field x k fs) = can_be_zero k && fields_can_be_zero fs

  -- there is a variant
  pub choices_can_be_zero : Variants → Bool
  choices_can_be_zero no_variants = false
  choices_can_be_zero (choice x t k no_variants) = can_be_zero k
  choices_can_be_zero (choice x t k vs) = can_be_zero k && choices_can_be_zero vs

-- a type that can be zero has a zero and a default
abbrev pub ZerosExist : Type 0
ZerosExist = (k : LogicalType) → can_be_zero k ≡ true → (is_some (zero_of k) ≡ true) ×
    (is_some (default_of k) ≡ true)
