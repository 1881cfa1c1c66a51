-- Bytes whose bits are computed one by one.
use Rattle.std.proofs.Common.{◌≡◌, ℕ, ◌+◌, ◌*◌, ◌/◌, ◌%◌, ◌≤◌, ◌<◌, ◌≢◌, inl, inr, List, Bool, true, false, ◌==◌, length, get_or, set, replicate, sym, ap, subst, ◌∙◌, arith}
use Rattle.std.specs.Int.{w8, bit_at}
use Rattle.std.proofs.lemmas.Bool.{cases_eq, cases_lt}
use Rattle.std.proofs.lemmas.List.{ext_get_or, get_or-set_same, get_or-set_other, length-set, length-replicate}
use Rattle.std.proofs.lemmas.List.FromFn.{get_or-map-range_with_len}
use Rattle.std.proofs.lemmas.Nat.Bits.{bit_at-zero, bit_at_set_same, bit_at_set_other}
use Rattle.vortex_arrays_buffer.specs.Bits.{bit_of, bits_of}
use Rattle.vortex_arrays_buffer.proofs.BitLemmas.{more_set}
use Rattle.vortex_arrays_buffer.proofs.ByteLemmas.{bit_of_byte}

-- P holds of the first j bits of the byte and their indices, and no other bit is set
pub record Says (P : ℕ → Bool → Type 0) (byte j : ℕ) : Type 0 where
  pub front : (i : ℕ) → i < j → P i (bit_at byte i == 1)
  pub rest : (i : ℕ) → j ≤ i → bit_at byte i ≡ 0

pub says_none : (P : ℕ → Bool → Type 0) → Says P 0 0
says_none P = record { front = λ i l. absurd (omega arith); rest = λ i l. bit_at-zero i }

pub says_yes : (P : ℕ → Bool → Type 0) (byte j : ℕ) (b : Bool) → j < 8 → Says P byte j → P j b → b ≡ true → Says P (more_set byte j) (j + 1)
says_yes P byte j b l s holds is = record {
  front = λ i h. elim (cases_eq i j) [
    | inl e ↦ subst (λ k. P k (bit_at (more_set byte j) k == 1)) (sym e) (subst (P j) (is ∙ sym (ap (λ n. n == 1) (bit_at_set_same w8 byte j l))) holds)
    | inr d ↦ subst (P i) (sym (ap (λ n. n == 1) (bit_at_set_other w8 byte j l i d))) (s.front i (omega arith))
  ];
  rest = λ i h. bit_at_set_other w8 byte j l i (λ e. omega arith) ∙ s.rest i (omega arith);
}

pub says_no : (P : ℕ → Bool → Type 0) (byte j : ℕ) (b : Bool) → Says P byte j → P j b → b ≡ false → Says P byte (j + 1)
says_no P byte j b s holds is = record {
  front = λ i h. elim (cases_eq i j) [
    | inl e ↦ subst (λ k. P k (bit_at byte k == 1)) (sym e) (subst (P j) (is ∙ sym (ap (λ n. n == 1) (s.rest j (omega arith)))) holds)
    | inr d ↦ s.front i (omega arith)
  ];
  rest = λ i h. s.rest i (omega arith);
}

pub ruleset byte_says = (says_none, says_yes, says_no)

-- P holds of the first n bits of the bytes and their indices, and there is room for more
pub record Fronts (P : ℕ → Bool → Type 0) (bytes : List ℕ) (n many : ℕ) : Type 0 where
  pub front : (i : ℕ) → i < n → P i (bit_of bytes i)
  pub room : many ≤ 8 * length bytes

pub fronts_none : (P : ℕ → Bool → Type 0) (m many : ℕ) → many ≤ 8 * m → Fronts P (replicate m 0) 0 many
fronts_none P m many h = record { front = λ i l. absurd (omega arith); room = omega (arith, length-replicate {A = ℕ} m 0) }

-- with n more bits, of the byte at k
pub fronts_byte : (P : ℕ → Bool → Type 0) (bytes : List ℕ) (k n many byte next : ℕ) → k < length bytes → n ≤ 8 → next ≡ 8 * k + n → Fronts P bytes (8 * k) many → ((j : ℕ) → j < n → P (8 * k + j) (bit_at byte j == 1)) → Fronts P (set bytes k byte) next many
fronts_byte P bytes k n many byte next l few e f h = record {
  front = λ i b. elim (cases_lt i (8 * k)) [
    | inl before ↦
        let other : (i / 8) ≢ k = λ q. omega (arith, q) in
        subst (P i) (sym (ap (λ m. bit_at m (i % 8) == 1) (get_or-set_other bytes k (i / 8) byte 0 other))) (f.front i before)
    | inr behind ↦
        let place : 8 * k + i % 8 ≡ i = omega arith in
        let here : bit_of (set bytes k byte) i ≡ (bit_at byte (i % 8) == 1) = bit_of_byte (set bytes k byte) k byte i (i % 8) (omega arith) (omega arith) (sym (get_or-set_same bytes k byte 0 l)) in
        subst (λ m. P m (bit_of (set bytes k byte) i)) place (subst (P (8 * k + i % 8)) (sym here) (h (i % 8) (omega arith)))
  ];
  room = omega (arith, f.room, length-set bytes k byte);
}

pub ruleset bytes_say = (fronts_none, fronts_byte)

-- a bit of the first ones
pub bit_here : (bytes : List ℕ) (bits : List Bool) (n i : ℕ) → bits ≡ bits_of bytes 0 n → i < n → get_or bits i false ≡ bit_of bytes i
bit_here bytes bits n i is l = ap (λ xs. get_or xs i false) is ∙ get_or-map-range_with_len (bit_of bytes) 0 n i i false l (omega arith)

-- a list that has the same item at each index is the same list
pub copied : (xs ys : List Bool) (n : ℕ) → n ≡ length xs → length ys ≡ n → ((i : ℕ) → i < n → get_or ys i false ≡ get_or xs i false) → ys ≡ xs
copied xs ys n e many h = ext_get_or false ys xs (many ∙ e) (λ k l. h k (omega arith))
