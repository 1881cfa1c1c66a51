-- The zero and the default value of a type.
use Rattle.std.specs.Prelude.{ℕ, zero, suc, pos, List, [], ◌∷◌, Bool, true, false, not, ◌&&◌, ◌==◌, Option, Some, None, option_map, if◌then◌else◌}
use Rattle.std.specs.Ordering.{int_eq}
use Rattle.vortex_model.specs.LogicalType.{LogicalType, boolean_type, integer_type, utf8, binary, list, fixed_list, mapping, struct, union, extension, Fields, no_fields, field, Variants, no_variants, choice, stored, is_nullable, nullability_of}
use Rattle.vortex_model.specs.Content.{Raw, raw_null, raw_boolean, raw_number, raw_text, raw_byte_string, raw_tuple, raw_tagged, raw_scalar, Raws, no_raws, raw_first, raw_count, content_of, is_null}

-- the value before the others, where all of them exist
abbrev pub before : Option Raw → Option Raws → Option Raws
before (Some r) (Some rs) = Some (raw_first r rs)
before r rs = None

-- a number of copies of the value
abbrev pub times : ℕ → Option Raw → Option Raws
times zero r = Some no_raws
times (suc m) r = before r (times m r)

-- False, 0, and what is empty; for fixed-size lists, structs and unions the zeros of their parts.
-- Other types have none.
abbrev mutual
  pub zero_of : LogicalType → Option Raw
  zero_of (boolean_type n) = Some (raw_boolean false)
  zero_of (integer_type i n) = Some (raw_number i (pos 0))
  zero_of (utf8 n) = Some (raw_text [])
  zero_of (binary n) = Some (raw_byte_string [])
  zero_of (list k n) = Some (raw_tuple no_raws)
  zero_of (fixed_list k m n) = option_map raw_tuple (times m (zero_of k))
  zero_of (mapping k v s n) = Some (raw_tuple no_raws)
  zero_of (struct fs n) = option_map raw_tuple (zeros_of fs)
  zero_of (union vs n) = first_zero vs
  zero_of (extension id meta k) = zero_of k
  zero_of k = None

  -- the zero of each field
  pub zeros_of : Fields → Option Raws
  zeros_of no_fields = Some no_raws
  zeros_of (field x k fs) = before (zero_of k) (zeros_of fs)

  -- the zero of the first variant, with its tag
  pub first_zero : Variants → Option Raw
  first_zero no_variants = None
  first_zero (choice x t k vs) = option_map (raw_tagged t) (zero_of k)

-- null for a nullable type, and else its zero
abbrev pub default_of : LogicalType → Option Raw
default_of k = if is_nullable (nullability_of k) then Some raw_null else zero_of k

abbrev pub is_empty : List ℕ → Bool
is_empty [] = true
is_empty (b ∷ bs) = false

-- The value is the zero of the type, which is not an extension. A `Variant` value is where the
-- value inside is the zero of the type inside.
abbrev mutual
  pub is_zero_in : LogicalType → Raw → Bool
  is_zero_in k raw_null = false
  is_zero_in k (raw_boolean b) = not b
  is_zero_in k (raw_number i z) = int_eq z (pos 0)
  is_zero_in k (raw_text bs) = is_empty bs
  is_zero_in k (raw_byte_string bs) = is_empty bs
  is_zero_in (fixed_list k m n) (raw_tuple rs) = are_zero k rs
  is_zero_in (struct fs n) (raw_tuple rs) = fields_are_zero fs rs
  is_zero_in k (raw_tuple rs) = raw_count rs == 0
  is_zero_in (union (choice x t k vs) n) (raw_tagged u r) = int_eq t u && is_zero_in (stored k) r
  is_zero_in k (raw_tagged u r) = false
  is_zero_in k (raw_scalar l r) = is_zero_in (stored l) r

  pub are_zero : LogicalType → Raws → Bool
  are_zero k no_raws = true
  are_zero k (raw_first r rs) = is_zero_in (stored k) r && are_zero k rs

  -- one value for each field
  pub fields_are_zero : Fields → Raws → Bool
  fields_are_zero no_fields no_raws = true
  fields_are_zero (field x k fs) (raw_first r rs) = is_zero_in (stored k) r && fields_are_zero fs rs
  fields_are_zero fs rs = false

-- the value is the zero of the type
abbrev pub is_zero_value : LogicalType → Raw → Bool
is_zero_value k r = is_zero_in (stored k) r

-- whether a value that isn't null is zero
abbrev pub zero_test : LogicalType → Raw → Option Bool
zero_test k r = if is_null (content_of r) then None else Some (is_zero_value k r)
