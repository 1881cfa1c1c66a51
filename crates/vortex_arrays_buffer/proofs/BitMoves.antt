-- Bits moved to the start of a byte.
use Rattle.std.proofs.Common.{◌≡◌, ℕ, ◌+◌, ◌-◌, ◌*◌, ◌/◌, ◌%◌, ◌^◌, ◌≤◌, ◌<◌, inl, inr, List, Bool, false, ◌==◌, length, take, drop, slice_index, refl, sym, ap, ◌∙◌, arith}
use Rattle.std.specs.Int.{bit_at}
use Rattle.std.proofs.Math.Nat.{div-div-eq-div-mul}
use Rattle.std.proofs.lemmas.Bool.{cases_lt}
use Rattle.std.proofs.lemmas.List.{ext_get_or, get_or-take, get_or-drop, length-take, length-drop}
use Rattle.std.proofs.lemmas.Nat.{pow-add}
use Rattle.std.proofs.lemmas.Nat.Bits.{bit_at_cat_low, bit_at_cat_high}
use Rattle.vortex_arrays_buffer.specs.Bits.{bit_of, bits_of}
use Rattle.vortex_arrays_buffer.proofs.BitLemmas.{bit_count, bit_in}
use Rattle.vortex_arrays_buffer.proofs.ByteLemmas.{bit_of_byte}
use Rattle.vortex_arrays_buffer.proofs.Collected.{Fronts, bit_here}

shifted : (n by j : ℕ) → bit_at (n / 2 ^ by) j ≡ bit_at n (by + j)
shifted n by j = ap (λ m. m % 2) (div-div-eq-div-mul n (2 ^ by) (2 ^ j) ∙ ap (λ p. n / p) (sym (pow-add 2 by j)))

low_byte : (n j : ℕ) → j < 8 → bit_at (n % 256) j ≡ bit_at n j
low_byte n j l =
    let parts : n ≡ n / 256 * 2 ^ 8 + n % 256 = omega arith in
    sym (ap (λ m. bit_at m j) parts ∙ bit_at_cat_low (n / 256) 8 (n % 256) j l)

-- a bit of two bytes, the first of which is at k
of_two : (bytes : List ℕ) (k low high i : ℕ) → low < 256 → i < 16 → low ≡ slice_index bytes k → high ≡ slice_index bytes (k + 1) → (bit_at (256 * high + low) i == 1) ≡ bit_of bytes (8 * k + i)
of_two bytes k low high i fits l is next =
    let turned : 256 * high + low ≡ high * 2 ^ 8 + low = omega arith in
    elim (cases_lt i 8) [
      | inl here ↦ ap (λ m. bit_at m i == 1) turned ∙ ap (λ n. n == 1) (bit_at_cat_low high 8 low i here) ∙ sym (bit_of_byte bytes k low (8 * k + i) i here (omega arith) is)
      | inr there ↦ ap (λ m. bit_at m i == 1) turned ∙ ap (λ n. n == 1) (bit_at_cat_high high 8 low i fits (omega arith)) ∙ sym (bit_of_byte bytes (k + 1) high (8 * k + i) (i - 8) (omega arith) (omega arith) next)
    ]

pub across : (bytes : List ℕ) (k by low high j : ℕ) → by < 8 → low < 256 → low ≡ slice_index bytes k → high ≡ slice_index bytes (k + 1) → j < 8 → (bit_at ((256 * high + low) / 2 ^ by % 256) j == 1) ≡ bit_of bytes (8 * k + by + j)
across bytes k by low high j few fits is next l =
    let place : 8 * k + (by + j) ≡ 8 * k + by + j = omega arith in
    ap (λ n. n == 1) (low_byte ((256 * high + low) / 2 ^ by) j l ∙ shifted (256 * high + low) by j)
    ∙ of_two bytes k low high (by + j) fits (omega arith) is next ∙ ap (bit_of bytes) place

-- bytes that have each bit from an index on have all of them
pub all_moved : (bytes new : List ℕ) (start n m : ℕ) → Fronts (λ i b. b ≡ bit_of bytes (start + i)) new m n → n ≤ m → bits_of new 0 n ≡ bits_of bytes start n
all_moved bytes new start n m f l = ext_get_or false (bits_of new 0 n) (bits_of bytes start n) (bit_count new 0 n ∙ sym (bit_count bytes start n)) (λ i b.
    let within : i < n = omega (arith, bit_count new 0 n) in
    bit_here new (bits_of new 0 n) n i refl within ∙ f.front i (omega arith) ∙ sym (bit_in bytes start n i false within))

-- the bytes from the one that begins with the first bit to the one after the last bit
pub part_packed : (bytes : List ℕ) (start n first end : ℕ) → start ≡ 8 * first → first + end ≤ length bytes → n ≤ 8 * end → bits_of (take (first + end - first) (drop first bytes)) 0 n ≡ bits_of bytes start n
part_packed bytes start n first end e fits l =
    let part : List ℕ = take (first + end - first) (drop first bytes) in
    ext_get_or false (bits_of part 0 n) (bits_of bytes start n) (bit_count part 0 n ∙ sym (bit_count bytes start n)) (λ i b.
    let within : i < n = omega (arith, bit_count part 0 n) in
    let byte : first + i / 8 ≡ (start + i) / 8 = omega arith in
    let place : i % 8 ≡ (start + i) % 8 = omega arith in
    let there : slice_index part (i / 8) ≡ slice_index bytes ((start + i) / 8) = get_or-take (first + end - first) (drop first bytes) (i / 8) 0 (omega arith) ∙ get_or-drop first bytes (i / 8) 0 ∙ ap (slice_index bytes) byte in
    bit_here part (bits_of part 0 n) n i refl within ∙ ap (λ m. bit_at m (i % 8) == 1) there ∙ ap (λ m. bit_at (slice_index bytes ((start + i) / 8)) m == 1) place ∙ sym (bit_in bytes start n i false within))

pub part_has_room : (bytes : List ℕ) (n first end : ℕ) → first + end ≤ length bytes → n ≤ 8 * end → n ≤ 8 * length (take (first + end - first) (drop first bytes))
part_has_room bytes n first end fits l = omega (arith, length-take (first + end - first) (drop first bytes), length-drop first bytes)

-- the room in bytes that begin with the bits
pub has_room : (bytes : List ℕ) (start n m : ℕ) (bits : List Bool) → bits_of bytes start n ≡ bits → n ≤ m → length bits ≤ m
has_room bytes start n m bits e l = omega (arith, ap length e, bit_count bytes start n)

pub has_bits : (bytes new packed : List ℕ) (start n : ℕ) (bits : List Bool) → bits_of bytes start n ≡ bits → packed ≡ new → bits_of new 0 n ≡ bits_of bytes start n → bits_of packed 0 (length bits) ≡ bits
has_bits bytes new packed start n bits e is same =
    let many : length bits ≡ n = ap length (sym e) ∙ bit_count bytes start n in
    ap (λ l. bits_of l 0 (length bits)) is ∙ ap (bits_of new 0) many ∙ same ∙ e
