-- Sizes of values in bytes, and types that fit into others.
use Rattle.std.specs.Prelude.{◌≡◌, ℕ, ◌+◌, ◌-◌, ◌*◌, ◌^◌, ◌&&◌, nat_le, nat_lt, List, [], ◌∷◌, Bool, true, false, Option, Some, None, if◌then◌else◌}
use Rattle.vortex_model.specs.LogicalType.{LogicalType, null_only, boolean_type, integer_type, float, decimal, fixed_list, struct, extension, Fields, no_fields, field, IntKind, u8, u16, u32, u64, i8, i16, i32, i64, nullability_of, nullable, EqualIgnoringNullability}
use Rattle.vortex_dtype_ptype.specs.Numbers.{NumberKind, integral, floating, float_width}

-- the width of an integer in bytes
abbrev pub integer_width : IntKind → ℕ
integer_width u8 = 1
integer_width u16 = 2
integer_width u32 = 4
integer_width u64 = 8
integer_width i8 = 1
integer_width i16 = 2
integer_width i32 = 4
integer_width i64 = 8

abbrev pub number_width : NumberKind → ℕ
number_width (integral i) = integer_width i
number_width (floating f) = float_width f

-- the first of these widths in bytes whose signed integer type holds each number of this many
-- decimal digits
abbrev pub first_width : List ℕ → ℕ → ℕ
first_width [] digits = 0
first_width (w ∷ ws) digits =
    if nat_le (10 ^ digits - 1) (2 ^ (8 * w - 1) - 1) then w else first_width ws digits

abbrev pub decimal_width : ℕ → ℕ
decimal_width digits = first_width (1 ∷ 2 ∷ 4 ∷ 8 ∷ 16 ∷ 32 ∷ []) digits

-- all values have one size, which is summed from the parts
abbrev mutual
  pub is_fixed : LogicalType → Bool
  is_fixed null_only = true
  is_fixed (boolean_type n) = true
  is_fixed (integer_type i n) = true
  is_fixed (float f n) = true
  is_fixed (decimal p s n) = true
  is_fixed (fixed_list k m n) = is_fixed k
  is_fixed (struct fs n) = are_fixed fs
  is_fixed (extension id meta k) = is_fixed k
  is_fixed k = false

  pub are_fixed : Fields → Bool
  are_fixed no_fields = true
  are_fixed (field x k fs) = is_fixed k && are_fixed fs

-- the size of a value
abbrev mutual
  pub bytes_of : LogicalType → ℕ
  bytes_of null_only = 0
  bytes_of (boolean_type n) = 1
  bytes_of (integer_type i n) = integer_width i
  bytes_of (float f n) = float_width f
  bytes_of (decimal p s n) = decimal_width p
  bytes_of (fixed_list k m n) = m * bytes_of k
  bytes_of (struct fs n) = bytes_of_fields fs
  bytes_of (extension id meta k) = bytes_of k
  bytes_of k = 0

  pub bytes_of_fields : Fields → ℕ
  bytes_of_fields no_fields = 0
  bytes_of_fields (field x k fs) = bytes_of k + bytes_of_fields fs

-- the size of a value, and none where values differ in it
abbrev pub width_of : LogicalType → Option ℕ
width_of k = if is_fixed k then Some (bytes_of k) else None

-- the size, and that of each part it is summed from, is below 2^64
abbrev mutual
  pub is_countable : LogicalType → Bool
  is_countable (fixed_list k m n) = is_countable k && nat_lt (m * bytes_of k) (2 ^ 64)
  is_countable (struct fs n) = are_countable fs && nat_lt (bytes_of_fields fs) (2 ^ 64)
  is_countable (extension id meta k) = is_countable k
  is_countable k = true

  pub are_countable : Fields → Bool
  are_countable no_fields = true
  are_countable (field x k fs) = is_countable k && are_countable fs

-- equal up to nullability, and the second is nullable if the first is
abbrev pub FitsInto : LogicalType → LogicalType → Type 0
FitsInto k l =
    EqualIgnoringNullability k l × (nullability_of k ≡ nullable → nullability_of l ≡ nullable)
