-- Decimal types that native integers hold.
use Rattle.std.proofs.Common.{◌≡◌, ℕ, ℤ, ◌-◌, ◌^◌, ◌≤◌, ◌<◌, nat_le, true, IsTrue, arith}
use Rattle.std.proofs.Math.Pow.{pow_mono}
use Rattle.std.specs.Cmp.{first_so, second_so}
use Rattle.vortex_dtype_ptype.specs.Numbers.{is_decimal_shape}
use Rattle.vortex_dtype_decimal.specs.declared.decimal_type.DecimalType.{DecimalType}
use Rattle.vortex_dtype_decimal.specs.DecimalValues.{bits_of, greatest_value, is_held_shape}

pub shapes_held : (t : DecimalType) (p : ℕ) (s : ℤ) → IsTrue (is_held_shape t p s) → IsTrue (is_decimal_shape p s)
shapes_held t p s h = first_so (is_decimal_shape p s) (nat_le (10 ^ p - 1) (greatest_value t)) h

pub powers_fit : (t : DecimalType) (p : ℕ) (s : ℤ) → bits_of t ≤ 128 → IsTrue (is_held_shape t p s) → 10 ^ p < 2 ^ 128
powers_fit t p s w h =
    let e : nat_le (10 ^ p - 1) (greatest_value t) ≡ true = second_so (is_decimal_shape p s) (nat_le (10 ^ p - 1) (greatest_value t)) h in
    let l : 10 ^ p - 1 ≤ greatest_value t = grind (arith, e) in
    let m : 2 ^ (bits_of t - 1) ≤ 2 ^ 127 = pow_mono {i = bits_of t - 1} {j = 127} (omega arith) in
    omega arith
