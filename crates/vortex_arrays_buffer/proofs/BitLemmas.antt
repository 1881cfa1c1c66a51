-- Bits of bytes, and of a part of them.
use Rattle.std.proofs.Common.{rules, ◌≡◌, ◌≢◌, ℕ, ◌+◌, ◌-◌, ◌*◌, ◌/◌, ◌%◌, ◌^◌, ◌≤◌, ◌<◌, ◌⊎◌, inl, inr, List, Bool, true, false, ◌==◌, length, map, take, drop, get_or, set, slice_index, replicate, refl, sym, ap, subst, ◌∙◌, arith, lit<}
use Rattle.std.specs.Prelude.{bit_and, bit_or}
use Rattle.std.specs.Int.{w8, bit_at}
use Rattle.std.proofs.lemmas.Bool.{cases_eq}
use Rattle.std.proofs.lemmas.List.{same_lists, get_or-take, get_or-drop, get_or-set_same, get_or-set_other, length-take, length-drop, length-set, length-replicate, get_or-replicate}
use Rattle.std.proofs.lemmas.List.FromFn.{length-map-range_with_len, get_or-map-range_with_len}
use Rattle.std.proofs.lemmas.Nat.Bits.{shr_and_one, bit_at_set_same, bit_at_set_other}
use Rattle.vortex_arrays_buffer.specs.Bits.{bit_of, bits_of}

-- what `(byte >> k) & 1 == 1` is
pub bit_read : (bytes : List ℕ) (i n : ℕ) → n ≡ slice_index bytes (i / 8) → bit_of bytes i ≡ (bit_and (n / 2 ^ (i % 8)) 1 == 1)
bit_read bytes i n e = ap (λ m. m == 1) (sym (ap (λ m. bit_and (m / 2 ^ (i % 8)) 1) e ∙ shr_and_one (slice_index bytes (i / 8)) (i % 8)))

pub bit_count : (bytes : List ℕ) (start n : ℕ) → length (bits_of bytes start n) ≡ n
bit_count bytes start n = length-map-range_with_len (bit_of bytes) start n

pub bit_in : (bytes : List ℕ) (start n i : ℕ) (d : Bool) → i < n → get_or (bits_of bytes start n) i d ≡ bit_of bytes (start + i)
bit_in bytes start n i d l = get_or-map-range_with_len (bit_of bytes) start n i (start + i) d l refl

pub bits_part : (bytes : List ℕ) (start n i j : ℕ) → i ≤ j → j ≤ n → bits_of bytes (start + i) (j - i) ≡ take (j - i) (drop i (bits_of bytes start n))
bits_part bytes start n i j ij jn =
    let many : length (take (j - i) (drop i (bits_of bytes start n))) ≡ j - i = omega (arith, length-take (j - i) (drop i (bits_of bytes start n)), length-drop i (bits_of bytes start n), bit_count bytes start n) in
    same_lists _ _ (bit_count bytes (start + i) (j - i) ∙ sym many) (λ k d b.
    let small : k < j - i = subst (λ m. k < m) (bit_count bytes (start + i) (j - i)) b in
    let within : i + k < n = omega arith in
    let place : start + i + k ≡ start + (i + k) = omega arith in
    bit_in bytes (start + i) (j - i) k d small ∙ ap (bit_of bytes) place ∙ sym (bit_in bytes start n (i + k) d within) ∙ sym (get_or-drop i (bits_of bytes start n) k d) ∙ sym (get_or-take (j - i) (drop i (bits_of bytes start n)) k d small))

pub ruleset bits = (bit_count, bit_in, bits_part)

-- the byte after `byte |= 1 << k`, which has one bit more
abbrev pub more_set : ℕ → ℕ → ℕ
more_set byte k = bit_or byte (1 * 2 ^ k % 2 ^ 8)

pub set_here : (bytes : List ℕ) (i : ℕ) → i / 8 < length bytes → bit_of (set bytes (i / 8) (more_set (slice_index bytes (i / 8)) (i % 8))) i ≡ true
set_here bytes i l =
    let small : i % 8 < 8 = omega arith in
    ap (λ n. bit_at n (i % 8) == 1) (get_or-set_same bytes (i / 8) (more_set (slice_index bytes (i / 8)) (i % 8)) 0 l)
    ∙ ap (λ n. n == 1) (bit_at_set_same w8 (slice_index bytes (i / 8)) (i % 8) small)

kept_in_byte : (bytes : List ℕ) (i j : ℕ) → i / 8 < length bytes → j ≢ i → j / 8 ≡ i / 8 → bit_of (set bytes (i / 8) (more_set (slice_index bytes (i / 8)) (i % 8))) j ≡ bit_of bytes j
kept_in_byte bytes i j l other e =
    let small : i % 8 < 8 = omega arith in
    let differs : (j % 8) ≢ (i % 8) = λ q. other (omega arith) in
    ap (λ m. bit_at (get_or (set bytes (i / 8) (more_set (slice_index bytes (i / 8)) (i % 8))) m 0) (j % 8) == 1) e
    ∙ ap (λ n. bit_at n (j % 8) == 1) (get_or-set_same bytes (i / 8) (more_set (slice_index bytes (i / 8)) (i % 8)) 0 l)
    ∙ ap (λ n. n == 1) (bit_at_set_other w8 (slice_index bytes (i / 8)) (i % 8) small (j % 8) differs)
    ∙ ap (λ m. bit_at (get_or bytes m 0) (j % 8) == 1) (sym e)

kept_beside : (bytes : List ℕ) (i j v : ℕ) → (j / 8) ≢ (i / 8) → bit_of (set bytes (i / 8) v) j ≡ bit_of bytes j
kept_beside bytes i j v other = ap (λ n. bit_at n (j % 8) == 1) (get_or-set_other bytes (i / 8) (j / 8) v 0 other)

pub set_keeps : (bytes : List ℕ) (i j : ℕ) → i / 8 < length bytes → j ≢ i → bit_of (set bytes (i / 8) (more_set (slice_index bytes (i / 8)) (i % 8))) j ≡ bit_of bytes j
set_keeps bytes i j l other = elim (cases_eq (j / 8) (i / 8)) [ inl e ↦ kept_in_byte bytes i j l other e | inr n ↦ kept_beside bytes i j (more_set (slice_index bytes (i / 8)) (i % 8)) n ]

pub ruleset bit_set = (set_here, set_keeps, length-set)
