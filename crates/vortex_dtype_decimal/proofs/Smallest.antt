-- The narrowest integer type for a number of digits.
use Rattle.std.proofs.Common.{ℕ, ◌-◌, ◌^◌, ◌≤◌, arith, lit<}
use Rattle.std.proofs.Math.Nat.{pow-le-pow_right}
use Rattle.std.proofs.Math.Pow.{pow_mono}
use Rattle.vortex_dtype_decimal.specs.declared.decimal_type.DecimalType.{DecimalType}
use Rattle.vortex_dtype_decimal.specs.declared.decimal_type.DecimalType.TheVariants.{I8, I16, I32, I64, I128, I256}
use Rattle.vortex_dtype_decimal.specs.DecimalValues.{bits_of, greatest_value, HoldsDigits, IsSmallest}

fewer : (p q : ℕ) → p ≤ q → 10 ^ p ≤ 10 ^ q
fewer p q h = pow-le-pow_right (lit< tt) h

first_I8 : (p : ℕ) → (u : DecimalType) → HoldsDigits p u → 8 ≤ bits_of u
first_I8 p I8 h = omega arith
first_I8 p I16 h = omega arith
first_I8 p I32 h = omega arith
first_I8 p I64 h = omega arith
first_I8 p I128 h = omega arith
first_I8 p I256 h = omega arith

pub smallest_I8 : (p : ℕ) → p ≤ 2 → IsSmallest p I8
smallest_I8 p b = record { holds = let m : 10 ^ p ≤ 10 ^ 2 = fewer p 2 b in omega arith; first = λ u h. first_I8 p u h }

first_I16 : (p : ℕ) → 3 ≤ p → (u : DecimalType) → HoldsDigits p u → 16 ≤ bits_of u
first_I16 p a I8 h = let m : 10 ^ 3 ≤ 10 ^ p = fewer 3 p a in absurd (omega arith)
first_I16 p a I16 h = omega arith
first_I16 p a I32 h = omega arith
first_I16 p a I64 h = omega arith
first_I16 p a I128 h = omega arith
first_I16 p a I256 h = omega arith

pub smallest_I16 : (p : ℕ) → 3 ≤ p → p ≤ 4 → IsSmallest p I16
smallest_I16 p a b = record { holds = let m : 10 ^ p ≤ 10 ^ 4 = fewer p 4 b in omega arith; first = λ u h. first_I16 p a u h }

first_I32 : (p : ℕ) → 5 ≤ p → (u : DecimalType) → HoldsDigits p u → 32 ≤ bits_of u
first_I32 p a I8 h = let m : 10 ^ 5 ≤ 10 ^ p = fewer 5 p a in absurd (omega arith)
first_I32 p a I16 h = let m : 10 ^ 5 ≤ 10 ^ p = fewer 5 p a in absurd (omega arith)
first_I32 p a I32 h = omega arith
first_I32 p a I64 h = omega arith
first_I32 p a I128 h = omega arith
first_I32 p a I256 h = omega arith

pub smallest_I32 : (p : ℕ) → 5 ≤ p → p ≤ 9 → IsSmallest p I32
smallest_I32 p a b = record { holds = let m : 10 ^ p ≤ 10 ^ 9 = fewer p 9 b in omega arith; first = λ u h. first_I32 p a u h }

first_I64 : (p : ℕ) → 10 ≤ p → (u : DecimalType) → HoldsDigits p u → 64 ≤ bits_of u
first_I64 p a I8 h = let m : 10 ^ 10 ≤ 10 ^ p = fewer 10 p a in absurd (omega arith)
first_I64 p a I16 h = let m : 10 ^ 10 ≤ 10 ^ p = fewer 10 p a in absurd (omega arith)
first_I64 p a I32 h = let m : 10 ^ 10 ≤ 10 ^ p = fewer 10 p a in absurd (omega arith)
first_I64 p a I64 h = omega arith
first_I64 p a I128 h = omega arith
first_I64 p a I256 h = omega arith

pub smallest_I64 : (p : ℕ) → 10 ≤ p → p ≤ 18 → IsSmallest p I64
smallest_I64 p a b = record { holds = let m : 10 ^ p ≤ 10 ^ 18 = fewer p 18 b in omega arith; first = λ u h. first_I64 p a u h }

first_I128 : (p : ℕ) → 19 ≤ p → (u : DecimalType) → HoldsDigits p u → 128 ≤ bits_of u
first_I128 p a I8 h = let m : 10 ^ 19 ≤ 10 ^ p = fewer 19 p a in absurd (omega arith)
first_I128 p a I16 h = let m : 10 ^ 19 ≤ 10 ^ p = fewer 19 p a in absurd (omega arith)
first_I128 p a I32 h = let m : 10 ^ 19 ≤ 10 ^ p = fewer 19 p a in absurd (omega arith)
first_I128 p a I64 h = let m : 10 ^ 19 ≤ 10 ^ p = fewer 19 p a in absurd (omega arith)
first_I128 p a I128 h = omega arith
first_I128 p a I256 h = omega arith

pub smallest_I128 : (p : ℕ) → 19 ≤ p → p ≤ 38 → IsSmallest p I128
smallest_I128 p a b = record { holds = let m : 10 ^ p ≤ 10 ^ 38 = fewer p 38 b in omega arith; first = λ u h. first_I128 p a u h }

first_I256 : (p : ℕ) → 39 ≤ p → (u : DecimalType) → HoldsDigits p u → 256 ≤ bits_of u
first_I256 p a I8 h = let m : 10 ^ 39 ≤ 10 ^ p = fewer 39 p a in absurd (omega arith)
first_I256 p a I16 h = let m : 10 ^ 39 ≤ 10 ^ p = fewer 39 p a in absurd (omega arith)
first_I256 p a I32 h = let m : 10 ^ 39 ≤ 10 ^ p = fewer 39 p a in absurd (omega arith)
first_I256 p a I64 h = let m : 10 ^ 39 ≤ 10 ^ p = fewer 39 p a in absurd (omega arith)
first_I256 p a I128 h = let m : 10 ^ 39 ≤ 10 ^ p = fewer 39 p a in absurd (omega arith)
first_I256 p a I256 h = omega arith

pub smallest_I256 : (p : ℕ) → 39 ≤ p → p ≤ 76 → IsSmallest p I256
smallest_I256 p a b = record { holds = let m : 10 ^ p ≤ 10 ^ 76 = fewer p 76 b in omega arith; first = λ u h. first_I256 p a u h }

pub ruleset smallest = (smallest_I8, smallest_I16, smallest_I32, smallest_I64, smallest_I128, smallest_I256)

pub wide_enough : (p : ℕ) (s t : DecimalType) → IsSmallest p s → bits_of s ≤ bits_of t → HoldsDigits p t
wide_enough p s t h w =
    let m : 2 ^ (bits_of s - 1) ≤ 2 ^ (bits_of t - 1) = pow_mono (omega arith) in
    let k : 10 ^ p - 1 ≤ greatest_value s = h.holds in
    omega arith

pub not_narrower : (p : ℕ) (s t : DecimalType) → IsSmallest p s → HoldsDigits p t → bits_of s ≤ bits_of t
not_narrower p s t h w = h.first t w

pub ruleset compatible = (wide_enough, not_narrower)
