-- The number of true bits in a range of bytes.
use Rattle.std.proofs.Common.{◌≡◌, ℕ, zero, suc, ◌+◌, ◌-◌, ◌*◌, ◌^◌, ◌++◌, ◌≤◌, ◌<◌, List, Bool, true, false, ◌==◌, cond, get_or, slice_index, refl, sym, ap, subst, ◌∙◌, arith}
use Rattle.std.specs.Prelude.{count_ones}
use Rattle.std.specs.Int.{bit_at}
use Rattle.std.specs.List.{count_by}
use Rattle.std.proofs.lemmas.List.{map-id}
use Rattle.std.proofs.lemmas.List.FromFn.{sum_by-map-range_with_len_more}
use Rattle.std.proofs.lemmas.List.Sums.{count_by-le-length, sum_by-append}
use Rattle.std.proofs.lemmas.Nat.Bits.{bit_at-lt, same_from_bits_below}
use Rattle.std.proofs.lemmas.Simd.{bit_mask_l, mask_l-lt, ones-mask_l}
use lib.Lanes.{mask_l}
use Rattle.vortex_arrays_buffer.specs.Bits.{bit_of, bits_of}
use Rattle.vortex_arrays_buffer.proofs.BitLemmas.{bit_count, bit_in}
use Rattle.vortex_arrays_buffer.proofs.ByteLemmas.{bit_of_byte, bits_joined, three_parts}

-- the number of true bits
abbrev pub trues_in : List ℕ → ℕ → ℕ → ℕ
trues_in bytes start n = count_by (λ b. b) (bits_of bytes start n)

-- with the bit at i
with_bit : (bytes : List ℕ) (start i : ℕ) → start ≤ i → trues_in bytes start (i + 1 - start) ≡ trues_in bytes start (i - start) + cond (bit_of bytes i) 1 0
with_bit bytes start i l =
    let many : i + 1 - start ≡ i - start + 1 = omega arith in
    ap (trues_in bytes start) many ∙ sum_by-map-range_with_len_more (λ x. cond x 1 0) (bit_of bytes) start (i - start) i (omega arith)

pub with_true : (bytes : List ℕ) (start i : ℕ) (b : Bool) → start ≤ i → b ≡ bit_of bytes i → b ≡ true → count_by (λ b. b) (bits_of bytes start (i + 1 - start)) ≡ count_by (λ b. b) (bits_of bytes start (i - start)) + 1
with_true bytes start i b l at is = with_bit bytes start i l ∙ ap (λ x. trues_in bytes start (i - start) + cond x 1 0) (sym at ∙ is)

pub with_false : (bytes : List ℕ) (start i : ℕ) (b : Bool) → start ≤ i → b ≡ bit_of bytes i → b ≡ false → count_by (λ b. b) (bits_of bytes start (i + 1 - start)) ≡ count_by (λ b. b) (bits_of bytes start (i - start))
with_false bytes start i b l at is =
    let none : trues_in bytes start (i - start) + 0 ≡ trues_in bytes start (i - start) = omega arith in
    with_bit bytes start i l ∙ ap (λ x. trues_in bytes start (i - start) + cond x 1 0) (sym at ∙ is) ∙ none

pub ruleset counted_bits = (with_true, with_false)

-- a digit is 1 where it equals 1, and else 0
pub digit : (d : ℕ) → d < 2 → cond (d == 1) 1 0 ≡ d
digit zero l = refl
digit (suc zero) l = refl
digit (suc (suc d)) l = absurd (omega arith)

-- a bit of a byte, and of its first bits
same_digit : (bytes : List ℕ) (k n i : ℕ) → i < 8 → n ≡ slice_index bytes k → bit_at n i ≡ bit_at (mask_l (bits_of bytes (8 * k) 8)) i
same_digit bytes k n i l is =
    let here : get_or (bits_of bytes (8 * k) 8) i false ≡ (bit_at n i == 1) = bit_in bytes (8 * k) 8 i false l ∙ bit_of_byte bytes k n (8 * k + i) i l refl is in
    sym (digit (bit_at n i) (bit_at-lt n i)) ∙ ap (λ b. cond b 1 0) (sym here) ∙ sym (bit_mask_l (bits_of bytes (8 * k) 8) i)

ones_of_byte : (bytes : List ℕ) (k n : ℕ) → n ≡ slice_index bytes k → n < 2 ^ 8 → count_ones n ≡ trues_in bytes (8 * k) 8
ones_of_byte bytes k n is small =
    let below : mask_l (bits_of bytes (8 * k) 8) < 2 ^ 8 = subst (λ m. mask_l (bits_of bytes (8 * k) 8) < 2 ^ m) (bit_count bytes (8 * k) 8) (mask_l-lt (bits_of bytes (8 * k) 8)) in
    ap count_ones (same_from_bits_below 8 n (mask_l (bits_of bytes (8 * k) 8)) small below (λ i l. same_digit bytes k n i l is))
    ∙ ap (λ bits. count_ones (mask_l bits)) (sym (map-id (bits_of bytes (8 * k) 8))) ∙ ones-mask_l (λ b. b) (bits_of bytes (8 * k) 8)

joined : (bytes : List ℕ) (start n m next : ℕ) → start + n ≡ next → trues_in bytes start (n + m) ≡ trues_in bytes start n + trues_in bytes next m
joined bytes start n m next e = ap (count_by (λ b. b)) (bits_joined bytes start n m next e) ∙ sum_by-append (λ x. cond x 1 0) (bits_of bytes start n) (bits_of bytes next m)

pub few_trues : (bytes : List ℕ) (start n : ℕ) → count_by (λ b. b) (bits_of bytes start n) ≤ n
few_trues bytes start n = subst (λ m. trues_in bytes start n ≤ m) (bit_count bytes start n) (count_by-le-length (λ b. b) (bits_of bytes start n))

-- with the byte at k
pub with_byte : (bytes : List ℕ) (first k n ones : ℕ) → first ≤ k → n ≡ slice_index bytes k → n < 2 ^ 8 → ones ≡ count_ones n → count_by (λ b. b) (bits_of bytes (8 * first) (8 * (k + 1 - first))) ≡ count_by (λ b. b) (bits_of bytes (8 * first) (8 * (k - first))) + ones
with_byte bytes first k n ones l is small e =
    let many : 8 * (k + 1 - first) ≡ 8 * (k - first) + 8 = omega arith in
    ap (trues_in bytes (8 * first)) many ∙ joined bytes (8 * first) (8 * (k - first)) 8 (8 * k) (omega arith)
    ∙ ap (λ m. trues_in bytes (8 * first) (8 * (k - first)) + m) (sym (e ∙ ones_of_byte bytes k n is small))

pub none_counted : (bytes : List ℕ) (start n : ℕ) → n ≡ 0 → 0 ≡ count_by (λ b. b) (bits_of bytes start n)
none_counted bytes start n e = ap (trues_in bytes start) (sym e)

pub three_counted : (bytes : List ℕ) (start a m b end : ℕ) → start ≤ a → a + m ≡ b → b ≤ end → (trues_in bytes start (a - start) + trues_in bytes a m) + trues_in bytes b (end - b) ≡ trues_in bytes start (end - start)
three_counted bytes start a m b end before e behind =
    ap (λ n. n + trues_in bytes b (end - b)) (sym (sum_by-append (λ x. cond x 1 0) (bits_of bytes start (a - start)) (bits_of bytes a m)))
    ∙ sym (sum_by-append (λ x. cond x 1 0) (bits_of bytes start (a - start) ++ bits_of bytes a m) (bits_of bytes b (end - b)))
    ∙ ap (count_by (λ b. b)) (three_parts bytes start a m b end before e behind)

-- the sum of what three calls count
pub counted_in_turn : (bytes : List ℕ) (start a m b end before inside behind : ℕ) → start ≤ a → a + m ≡ b → b ≤ end → before ≡ count_by (λ x. x) (bits_of bytes start (a - start)) → inside ≡ count_by (λ x. x) (bits_of bytes a m) → behind ≡ count_by (λ x. x) (bits_of bytes b (end - b)) → before + inside + behind ≡ count_by (λ x. x) (bits_of bytes start (end - start))
counted_in_turn bytes start a m b end before inside behind l e r first second third =
    ap (λ n. n + inside + behind) first ∙ ap (λ n. trues_in bytes start (a - start) + n + behind) second ∙ ap (λ n. trues_in bytes start (a - start) + trues_in bytes a m + n) third
    ∙ three_counted bytes start a m b end l e r
