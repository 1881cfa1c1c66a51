-- Primitive types in the model: integer types and float types, with their widths and signs.
use Rattle.std.specs.Prelude.{◌≡◌, ◌&&◌, nat_le, int_le, ℕ, ℤ, pos, negsuc, ◌-◌, ◌*◌, ◌^◌, ◌≤◌, ◌+ℤ◌, ◌-ℤ◌, ◌≤ℤ◌, Bool, true, false, Option, Some, None}
use Rattle.std.specs.Int.{int_max}
use Rattle.vortex_model.specs.LogicalType.{IntKind, u8, u16, u32, u64, i8, i16, i32, i64, FloatKind, f16, f32, f64, Nullability, LogicalType, integer_type, float}
use Rattle.vortex_model.specs.Valid.{least_number, greatest_number, InRange}

pub data NumberKind : Type 0 where
  integral : IntKind → NumberKind
  floating : FloatKind → NumberKind

-- the logical type of a primitive type
abbrev pub type_of_numbers : NumberKind → Nullability → LogicalType
type_of_numbers (integral i) n = integer_type i n
type_of_numbers (floating f) n = float f n

abbrev pub int_kind_in : NumberKind → Option IntKind
int_kind_in (integral i) = Some i
int_kind_in (floating f) = None

-- no integer of the type is below zero
abbrev pub is_natural : IntKind → Bool
is_natural u8 = true
is_natural u16 = true
is_natural u32 = true
is_natural u64 = true
is_natural i8 = false
is_natural i16 = false
is_natural i32 = false
is_natural i64 = false

abbrev pub is_unsigned : NumberKind → Bool
is_unsigned (integral i) = is_natural i
is_unsigned (floating f) = false

abbrev pub is_signed : NumberKind → Bool
is_signed (integral i) = elim (is_natural i) [ true ↦ false | false ↦ true ]
is_signed (floating f) = false

abbrev pub is_integral : NumberKind → Bool
is_integral (integral i) = true
is_integral (floating f) = false

abbrev pub is_real : NumberKind → Bool
is_real (integral i) = false
is_real (floating f) = true

-- the width of a float in bytes
abbrev pub float_width : FloatKind → ℕ
float_width f16 = 2
float_width f32 = 4
float_width f64 = 8

-- w bytes have as many states as the type has integers
abbrev pub HasByteWidth : NumberKind → ℕ → Type 0
HasByteWidth (integral i) w = greatest_number i ≡ least_number i +ℤ pos (256 ^ w - 1)
HasByteWidth (floating f) w = w ≡ float_width f

-- w bits have as many states as the type has integers
abbrev pub HasBitWidth : NumberKind → ℕ → Type 0
HasBitWidth (integral i) w = greatest_number i ≡ least_number i +ℤ pos (2 ^ w - 1)
HasBitWidth (floating f) w = w ≡ 8 * float_width f

-- the integer type holds z
abbrev pub Has : NumberKind → ℤ → Type 0
Has (integral i) z = InRange i z
Has (floating f) z = ⊥

-- n is the greatest integer of the type
abbrev pub IsGreatest : NumberKind → ℕ → Type 0
IsGreatest (integral i) n = pos n ≡ greatest_number i
IsGreatest (floating f) n = ⊥

-- the distance from the least integer of the type to the greatest, which orders types by width
abbrev pub reach_of : IntKind → ℤ
reach_of i = greatest_number i -ℤ least_number i

-- the integer type of this sign and the same width; a float type stays the same
abbrev pub HasSign : Bool → NumberKind → NumberKind → Type 0
HasSign natural (integral i) (integral j) = (is_natural j ≡ natural) × (reach_of j ≡ reach_of i)
HasSign natural (integral i) (floating f) = ⊥
HasSign natural (floating f) k = k ≡ floating f

-- the integer type of this sign that is as wide as the wider of two
abbrev pub IsWiderOf : Bool → NumberKind → NumberKind → NumberKind → Type 0
IsWiderOf natural (integral i) (integral j) (integral k) =
    (is_natural k ≡ natural) × (reach_of k ≡ int_max (reach_of i) (reach_of j))
IsWiderOf natural a b c = ⊥

-- the integer type has this sign and holds z, and no narrower one does
pub record HoldsNarrowly (natural : Bool) (z : ℤ) (i : IntKind) : Type 0 where
  pub sign : is_natural i ≡ natural
  pub holds : InRange i z
  pub narrow : (j : IntKind) → is_natural j ≡ natural → InRange j z → reach_of i ≤ℤ reach_of j

abbrev pub IsNarrowest : Bool → ℤ → NumberKind → Type 0
IsNarrowest natural z (integral i) = HoldsNarrowly natural z i
IsNarrowest natural z (floating f) = ⊥

-- the least number of bits that holds each number of this many decimal digits
pub record IsBitsOfDigits (digits : ℕ) (bits : ℕ) : Type 0 where
  pub enough : 10 ^ digits ≤ 2 ^ bits
  pub least : (b : ℕ) → 10 ^ digits ≤ 2 ^ b → bits ≤ b

-- a precision from 1 to 76, and a scale from -76 to 76
abbrev pub is_decimal_shape : ℕ → ℤ → Bool
is_decimal_shape precision scale =
    nat_le 1 precision && nat_le precision 76 && int_le (negsuc 75) scale && int_le scale (pos 76)
