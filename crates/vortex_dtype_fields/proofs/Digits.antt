-- Widths of integers and decimals.
use Rattle.std.proofs.Common.{◌≡◌, ◌≤◌, ◌<◌, ◌-◌, ◌*◌, ◌^◌, ℕ, suc, List, [], ◌∷◌, nat_le, Bool, true, false, refl, sym, ap, ◌∙◌, arith, if◌then◌else◌, lit<, inl, inr}
use Rattle.std.proofs.Math.Nat.{pow-le-pow_right, one-le-pow, pow-suc}
use Rattle.std.proofs.lemmas.Bool.Decides.{leb_tells}
use Rattle.std.proofs.lemmas.Int.{ints}
use Rattle.std.specs.Bool.{Decides}
use Rattle.vortex_model.specs.LogicalType.{u8, u16, u32, u64, i8, i16, i32, i64, Nullability}
use Rattle.vortex_dtype_ptype.specs.Numbers.{NumberKind, integral, floating, HasByteWidth, type_of_numbers}
use Rattle.vortex_dtype_fields.specs.Widths.{first_width, decimal_width, number_width, bytes_of, is_countable}

-- ---- of decimals

unlike : {P : Type 0} (b : Bool) → Decides b P → (P → ⊥) → b ≡ false
unlike true d never = absurd (never (d.0 refl))
unlike false d never = refl

at_most_decides : (a b : ℕ) → Decides (nat_le a b) (a ≤ b)
at_most_decides a b = elim (leb_tells a b) [
  | inl p ↦ (λ h. p.1, λ h. p.0)
  | inr q ↦ (λ h. absurd (cc (h, q.0)), λ h. absurd (omega (arith, q.1)))
]

holds : (w : ℕ) (ws : List ℕ) (p t : ℕ) → p ≤ t → nat_le (10 ^ t - 1) (2 ^ (8 * w - 1) - 1) ≡ true → first_width (w ∷ ws) p ≡ w
holds w ws p t h e =
    let more : 10 ^ p ≤ 10 ^ t = pow-le-pow_right (lit< tt) h in
    let enough : 10 ^ t - 1 ≤ 2 ^ (8 * w - 1) - 1 = (at_most_decides (10 ^ t - 1) (2 ^ (8 * w - 1) - 1)).0 e in
    let test : nat_le (10 ^ p - 1) (2 ^ (8 * w - 1) - 1) ≡ true = (at_most_decides (10 ^ p - 1) (2 ^ (8 * w - 1) - 1)).1 (omega arith) in
    ap (λ b. if b then w else first_width ws p) test

passes : (w : ℕ) (ws : List ℕ) (p t : ℕ) → t ≤ p → nat_le (10 ^ t - 1) (2 ^ (8 * w - 1) - 1) ≡ false → first_width (w ∷ ws) p ≡ first_width ws p
passes w ws p t h e =
    let more : 10 ^ t ≤ 10 ^ p = pow-le-pow_right (lit< tt) h in
    let test : nat_le (10 ^ p - 1) (2 ^ (8 * w - 1) - 1) ≡ false = unlike (nat_le (10 ^ p - 1) (2 ^ (8 * w - 1) - 1)) (at_most_decides (10 ^ p - 1) (2 ^ (8 * w - 1) - 1))
    (λ k. let short : nat_le (10 ^ t - 1) (2 ^ (8 * w - 1) - 1) ≡ true = (at_most_decides (10 ^ t - 1) (2 ^ (8 * w - 1) - 1)).1 (omega arith) in cc) in
    ap (λ b. if b then w else first_width ws p) test

pub one_byte : (p : ℕ) → p ≤ 2 → 1 ≡ decimal_width p
one_byte p h = sym (holds 1 (2 ∷ 4 ∷ 8 ∷ 16 ∷ 32 ∷ []) p 2 h refl)

past_one : (p : ℕ) → 3 ≤ p → decimal_width p ≡ first_width (2 ∷ 4 ∷ 8 ∷ 16 ∷ 32 ∷ []) p
past_one p h = passes 1 (2 ∷ 4 ∷ 8 ∷ 16 ∷ 32 ∷ []) p 3 h refl

pub two_bytes : (p : ℕ) → 2 < p → p ≤ 4 → 2 ≡ decimal_width p
two_bytes p a h = sym (past_one p a ∙ holds 2 (4 ∷ 8 ∷ 16 ∷ 32 ∷ []) p 4 h refl)

past_two : (p : ℕ) → 5 ≤ p → decimal_width p ≡ first_width (4 ∷ 8 ∷ 16 ∷ 32 ∷ []) p
past_two p h = past_one p (omega arith) ∙ passes 2 (4 ∷ 8 ∷ 16 ∷ 32 ∷ []) p 5 h refl

pub four_bytes : (p : ℕ) → 4 < p → p ≤ 9 → 4 ≡ decimal_width p
four_bytes p a h = sym (past_two p a ∙ holds 4 (8 ∷ 16 ∷ 32 ∷ []) p 9 h refl)

past_four : (p : ℕ) → 10 ≤ p → decimal_width p ≡ first_width (8 ∷ 16 ∷ 32 ∷ []) p
past_four p h = past_two p (omega arith) ∙ passes 4 (8 ∷ 16 ∷ 32 ∷ []) p 10 h refl

pub eight_bytes : (p : ℕ) → 9 < p → p ≤ 18 → 8 ≡ decimal_width p
eight_bytes p a h = sym (past_four p a ∙ holds 8 (16 ∷ 32 ∷ []) p 18 h refl)

past_eight : (p : ℕ) → 19 ≤ p → decimal_width p ≡ first_width (16 ∷ 32 ∷ []) p
past_eight p h = past_four p (omega arith) ∙ passes 8 (16 ∷ 32 ∷ []) p 19 h refl

pub sixteen_bytes : (p : ℕ) → 18 < p → p ≤ 38 → 16 ≡ decimal_width p
sixteen_bytes p a h = sym (past_eight p a ∙ holds 16 (32 ∷ []) p 38 h refl)

pub most_bytes : (p : ℕ) → 38 < p → p ≤ 76 → 32 ≡ decimal_width p
most_bytes p a h = sym (past_eight p (omega arith) ∙ passes 16 (32 ∷ []) p 39 a refl ∙ holds 32 [] p 76 h refl)

-- ---- of integers

no_less : (v w : ℕ) → v < w → 256 ^ w ≡ 256 ^ v → ⊥
no_less v w h e =
    let more : 256 ^ (suc v) ≤ 256 ^ w = pow-le-pow_right (lit< tt) h in
    let next : 256 ^ (suc v) ≡ 256 ^ v * 256 = pow-suc 256 v in
    let some : 1 ≤ 256 ^ v = one-le-pow v 256 (lit< tt) in
    omega arith

eq_power : (v w : ℕ) → 256 ^ w ≡ 256 ^ v → w ≡ v
eq_power v w e =
    let up : v < w → ⊥ = λ h. no_less v w h e in
    let down : w < v → ⊥ = λ h. no_less w v h (sym e) in
    omega arith

byte_width : (k : NumberKind) (w : ℕ) → HasByteWidth k w → w ≡ number_width k
byte_width (integral u8) w h = eq_power 1 w (omega (arith, ints))
byte_width (integral u16) w h = eq_power 2 w (omega (arith, ints))
byte_width (integral u32) w h = eq_power 4 w (omega (arith, ints))
byte_width (integral u64) w h = eq_power 8 w (omega (arith, ints))
byte_width (integral i8) w h = eq_power 1 w (omega (arith, ints))
byte_width (integral i16) w h = eq_power 2 w (omega (arith, ints))
byte_width (integral i32) w h = eq_power 4 w (omega (arith, ints))
byte_width (integral i64) w h = eq_power 8 w (omega (arith, ints))
byte_width (floating f) w h = h

pub numbers_counted : (k : NumberKind) (n : Nullability) (w : ℕ) → HasByteWidth k w → (is_countable (type_of_numbers k n) ≡ true) × (w ≡ bytes_of (type_of_numbers k n))
numbers_counted (integral i) n w h = (refl, byte_width (integral i) w h)
numbers_counted (floating f) n w h = (refl, byte_width (floating f) w h)
