-- Bit widths of decimals.
use Rattle.std.proofs.Common.{◌≡◌, ◌∙◌, ap, ℕ, suc, zero, ◌<◌, ◌≤◌, ◌-◌, ◌+◌, ◌*◌, ◌/◌, ◌^◌, ◌&&◌, nat_le, nat_lt, Bool, true, refl, arith, inl, inr}
use Rattle.std.proofs.Math.Nat.{eq-or-lt_of_le}
use Rattle.std.proofs.Math.Pow.{pow_mono}
use Rattle.std.proofs.lemmas.Bool.{and_parts}
use Rattle.vortex_dtype_ptype.specs.Numbers.{IsBitsOfDigits}

-- the width in bits of p digits
abbrev bits : ℕ → ℕ
bits p = (p * 485 + 145) / 146

abbrev is_right : ℕ → Bool
is_right p = nat_le (10 ^ p) (2 ^ bits p) && nat_lt (2 ^ (bits p - 1)) (10 ^ p)

abbrev are_right_to : ℕ → Bool
are_right_to zero = true
are_right_to (suc n) = is_right (suc n) && are_right_to n

are_right : are_right_to 76 ≡ true
are_right = refl

right_within : (n p : ℕ) → are_right_to n ≡ true → 1 ≤ p → p ≤ n → is_right p ≡ true
right_within zero p h a b = absurd (omega arith)
right_within (suc n) p h a b =
    let both : (is_right (suc n) ≡ true) × (are_right_to n ≡ true) = and_parts (is_right (suc n)) (are_right_to n) h in
    elim (eq-or-lt_of_le b) [ inl e ↦ ap is_right e ∙ both.0 | inr l ↦ right_within n p both.1 a (omega arith) ]

pub bits_of_digits : (p : ℕ) → 1 ≤ p → p ≤ 76 → IsBitsOfDigits p ((p * 485 + 145) / 146)
bits_of_digits p a b =
    let t : is_right p ≡ true = right_within 76 p are_right a b in
    let lo : 10 ^ p ≤ 2 ^ bits p = grind (arith, t) in
    let hi : 2 ^ (bits p - 1) < 10 ^ p = grind (arith, t) in
    let narrower : (c : ℕ) → 10 ^ p ≤ 2 ^ c → c < bits p → ⊥ = λ c h l.
    let m : 2 ^ c ≤ 2 ^ (bits p - 1) = pow_mono (omega arith) in
    omega arith in
    record { enough = lo; least = λ c h. let n : c < bits p → ⊥ = narrower c h in omega arith }
