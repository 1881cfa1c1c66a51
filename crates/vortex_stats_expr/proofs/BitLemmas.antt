-- Single bits of bytes.
use Rattle.std.proofs.Common.{◌≡◌, ◌≢◌, ℕ, ◌*◌, ◌/◌, ◌%◌, ◌^◌, ◌≤◌, ◌<◌, inl, inr, List, true, false, ◌==◌, length, get_or, set, slice_index, refl, sym, ap, ◌∙◌, arith}
use Rattle.std.specs.Prelude.{bit_and, bit_or}
use Rattle.std.specs.Int.{w8, bit_at}
use Rattle.std.proofs.lemmas.Bool.{cases_eq}
use Rattle.std.proofs.lemmas.List.{get_or-set_same, get_or-set_other, length-set}
use Rattle.std.proofs.lemmas.Nat.Bits.{shr_and_one, bit_at_set_same, bit_at_set_other}
use Rattle.vortex_stats_expr.specs.Bitsets.{has_bit}

-- what `(byte >> k) & 1 == 1` says
pub bit_read : (bytes : List ℕ) (i n : ℕ) → n ≡ slice_index bytes (i / 8) → has_bit bytes i ≡ (bit_and (n / 2 ^ (i % 8)) 1 == 1)
bit_read bytes i n e = ap (λ m. m == 1) (sym (ap (λ m. bit_and (m / 2 ^ (i % 8)) 1) e ∙ shr_and_one (slice_index bytes (i / 8)) (i % 8)))

-- A byte with one bit more.
-- the byte after `byte |= 1 << k`
abbrev pub more_set : ℕ → ℕ → ℕ
more_set byte k = bit_or byte (1 * 2 ^ k % 2 ^ 8)

pub set_here : (bytes : List ℕ) (i : ℕ) → i / 8 < length bytes → has_bit (set bytes (i / 8) (more_set (slice_index bytes (i / 8)) (i % 8))) i ≡ true
set_here bytes i l =
    let small : i % 8 < 8 = omega arith in
    ap (λ n. bit_at n (i % 8) == 1) (get_or-set_same bytes (i / 8) (more_set (slice_index bytes (i / 8)) (i % 8)) 0 l)
    ∙ ap (λ n. n == 1) (bit_at_set_same w8 (slice_index bytes (i / 8)) (i % 8) small)

kept_in_byte : (bytes : List ℕ) (i j : ℕ) → i / 8 < length bytes → j ≢ i → j / 8 ≡ i / 8 → has_bit (set bytes (i / 8) (more_set (slice_index bytes (i / 8)) (i % 8))) j ≡ has_bit bytes j
kept_in_byte bytes i j l other e =
    let small : i % 8 < 8 = omega arith in
    let differs : (j % 8) ≢ (i % 8) = λ q. other (omega arith) in
    ap (λ m. bit_at (get_or (set bytes (i / 8) (more_set (slice_index bytes (i / 8)) (i % 8))) m 0) (j % 8) == 1) e
    ∙ ap (λ n. bit_at n (j % 8) == 1) (get_or-set_same bytes (i / 8) (more_set (slice_index bytes (i / 8)) (i % 8)) 0 l)
    ∙ ap (λ n. n == 1) (bit_at_set_other w8 (slice_index bytes (i / 8)) (i % 8) small (j % 8) differs)
    ∙ ap (λ m. bit_at (get_or bytes m 0) (j % 8) == 1) (sym e)

kept_beside : (bytes : List ℕ) (i j v : ℕ) → (j / 8) ≢ (i / 8) → has_bit (set bytes (i / 8) v) j ≡ has_bit bytes j
kept_beside bytes i j v other = ap (λ n. bit_at n (j % 8) == 1) (get_or-set_other bytes (i / 8) (j / 8) v 0 other)

pub set_keeps : (bytes : List ℕ) (i j : ℕ) → i / 8 < length bytes → j ≢ i → has_bit (set bytes (i / 8) (more_set (slice_index bytes (i / 8)) (i % 8))) j ≡ has_bit bytes j
set_keeps bytes i j l other = elim (cases_eq (j / 8) (i / 8)) [ inl e ↦ kept_in_byte bytes i j l other e | inr n ↦ kept_beside bytes i j (more_set (slice_index bytes (i / 8)) (i % 8)) n ]

pub ruleset bit_set = (set_here, set_keeps, length-set)
