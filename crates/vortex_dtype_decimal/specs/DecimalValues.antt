-- Widths of the integer types that store decimals.
use Rattle.std.specs.Prelude.{ℕ, ℤ, ◌-◌, ◌^◌, ◌≤◌, ◌&&◌, nat_le, Bool}
use Rattle.vortex_dtype_ptype.specs.Numbers.{is_decimal_shape}
use Rattle.vortex_dtype_decimal.specs.declared.decimal_type.DecimalType.{DecimalType}
use Rattle.vortex_dtype_decimal.specs.declared.decimal_type.DecimalType.TheVariants as stored

-- the width in bits, with the sign
abbrev pub bits_of : DecimalType → ℕ
bits_of stored.I8 = 8
bits_of stored.I16 = 16
bits_of stored.I32 = 32
bits_of stored.I64 = 64
bits_of stored.I128 = 128
bits_of stored.I256 = 256

abbrev pub greatest_value : DecimalType → ℕ
greatest_value t = 2 ^ (bits_of t - 1) - 1

-- the integer type holds each number of this many digits
abbrev pub HoldsDigits : ℕ → DecimalType → Type 0
HoldsDigits digits t = 10 ^ digits - 1 ≤ greatest_value t

-- the narrowest integer type that holds each number of this many digits
pub record IsSmallest (digits : ℕ) (t : DecimalType) : Type 0 where
  pub holds : HoldsDigits digits t
  pub first : (u : DecimalType) → HoldsDigits digits u → bits_of t ≤ bits_of u

-- a decimal type whose decimals this integer type holds
abbrev pub is_held_shape : DecimalType → ℕ → ℤ → Bool
is_held_shape t precision scale =
    is_decimal_shape precision scale && nat_le (10 ^ precision - 1) (greatest_value t)
