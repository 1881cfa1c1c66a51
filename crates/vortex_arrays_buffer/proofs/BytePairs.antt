-- Bits combined and negated, byte by byte, and bits moved to the start of a byte.
use Rattle.std.proofs.Common.{◌≡◌, ℕ, zero, suc, ◌+◌, ◌*◌, ◌/◌, ◌%◌, ◌≤◌, ◌<◌, List, Bool, false, not, ◌&&◌, ◌||◌, ◌==◌, min, max, length, map, get_or, slice_index, refl, sym, ap, ◌∙◌, arith}
use Rattle.std.specs.Prelude.{bit_and, bit_or, bit_xor}
use Rattle.std.specs.Int.{bit_at}
use Rattle.std.specs.List.{zip}
use Rattle.std.proofs.lemmas.List.{get_or-map, length-map}
use Rattle.std.proofs.lemmas.Nat.Bits.{bit_at_and, bit_at_or, bit_at_xor, bit_at_ones, bit_at-lt}
use Rattle.std.proofs.lemmas.Slice.Zip.{length-zip, get_or-zip}
use Rattle.vortex_arrays_buffer.specs.Bits.{bit_of, bits_of}
use Rattle.vortex_arrays_buffer.proofs.BitLemmas.{bit_count}
use Rattle.vortex_arrays_buffer.proofs.Built.{contraries, pairwise}
use Rattle.vortex_arrays_buffer.proofs.Collected.{bit_here}

both_one : (a b : ℕ) → a < 2 → b < 2 → (min a b == 1) ≡ ((a == 1) && (b == 1))
both_one zero zero l h = refl
both_one zero (suc zero) l h = refl
both_one (suc zero) zero l h = refl
both_one (suc zero) (suc zero) l h = refl
both_one (suc (suc a)) b l h = absurd (omega arith)
both_one zero (suc (suc b)) l h = absurd (omega arith)
both_one (suc zero) (suc (suc b)) l h = absurd (omega arith)

one_of : (a b : ℕ) → a < 2 → b < 2 → (max a b == 1) ≡ ((a == 1) || (b == 1))
one_of zero zero l h = refl
one_of zero (suc zero) l h = refl
one_of (suc zero) zero l h = refl
one_of (suc zero) (suc zero) l h = refl
one_of (suc (suc a)) b l h = absurd (omega arith)
one_of zero (suc (suc b)) l h = absurd (omega arith)
one_of (suc zero) (suc (suc b)) l h = absurd (omega arith)

turned : (a : ℕ) → a < 2 → ((a + 1) % 2 == 1) ≡ not (a == 1)
turned zero l = refl
turned (suc zero) l = refl
turned (suc (suc a)) l = absurd (omega arith)

and_bit : (x y j : ℕ) → (bit_at (bit_and x y) j == 1) ≡ ((bit_at x j == 1) && (bit_at y j == 1))
and_bit x y j = ap (λ n. n == 1) (bit_at_and x y j) ∙ both_one (bit_at x j) (bit_at y j) (bit_at-lt x j) (bit_at-lt y j)

or_bit : (x y j : ℕ) → (bit_at (bit_or x y) j == 1) ≡ ((bit_at x j == 1) || (bit_at y j == 1))
or_bit x y j = ap (λ n. n == 1) (bit_at_or x y j) ∙ one_of (bit_at x j) (bit_at y j) (bit_at-lt x j) (bit_at-lt y j)

not_bit : (x j : ℕ) → j < 8 → (bit_at (bit_xor x 255) j == 1) ≡ not (bit_at x j == 1)
not_bit x j l = ap (λ n. n == 1) (bit_at_xor x 255 j ∙ ap (λ n. (bit_at x j + n) % 2) (bit_at_ones 8 j l)) ∙ turned (bit_at x j) (bit_at-lt x j)

-- what holds of each bit of each pair of bytes holds of the bits
by_pairs : (op : ℕ → ℕ → ℕ) (f : Bool → Bool → Bool) → ((x y j : ℕ) → (bit_at (op x y) j == 1) ≡ f (bit_at x j == 1) (bit_at y j == 1)) → (xs ys : List ℕ) (n : ℕ) → n ≤ 8 * length xs → n ≤ 8 * length ys → bits_of (map (λ p. op p.0 p.1) (zip xs ys)) 0 n ≡ map (λ p. f p.0 p.1) (zip (bits_of xs 0 n) (bits_of ys 0 n))
by_pairs op f each xs ys n l h =
    let pair : ℕ × ℕ → ℕ = λ p. op p.0 p.1 in
    let many : length (zip xs ys) ≡ min (length xs) (length ys) = length-zip xs ys in
    pairwise f (bits_of xs 0 n) (bits_of ys 0 n) (bits_of (map pair (zip xs ys)) 0 n) n (sym (bit_count xs 0 n)) (bit_count xs 0 n ∙ sym (bit_count ys 0 n)) (bit_count (map pair (zip xs ys)) 0 n) (λ i b.
    let mine : i / 8 < length xs = omega arith in
    let theirs : i / 8 < length ys = omega arith in
    let here : get_or (map pair (zip xs ys)) (i / 8) 0 ≡ op (slice_index xs (i / 8)) (slice_index ys (i / 8)) = get_or-map pair (zip xs ys) (i / 8) (0, 0) 0 (omega (arith, many)) ∙ ap pair (get_or-zip xs ys (i / 8) (0, 0) mine theirs) in
    bit_here (map pair (zip xs ys)) (bits_of (map pair (zip xs ys)) 0 n) n i refl b ∙ ap (λ m. bit_at m (i % 8) == 1) here ∙ each (slice_index xs (i / 8)) (slice_index ys (i / 8)) (i % 8)
    ∙ sym (ap (λ x. f x (get_or (bits_of ys 0 n) i false)) (bit_here xs (bits_of xs 0 n) n i refl b) ∙ ap (f (bit_of xs i)) (bit_here ys (bits_of ys 0 n) n i refl b)))

pub both_bits : (xs ys : List ℕ) (n : ℕ) → n ≤ 8 * length xs → n ≤ 8 * length ys → bits_of (map (λ p. bit_and p.0 p.1) (zip xs ys)) 0 n ≡ map (λ p. p.0 && p.1) (zip (bits_of xs 0 n) (bits_of ys 0 n))
both_bits xs ys n l h = by_pairs bit_and (λ x y. x && y) and_bit xs ys n l h

pub either_bits : (xs ys : List ℕ) (n : ℕ) → n ≤ 8 * length xs → n ≤ 8 * length ys → bits_of (map (λ p. bit_or p.0 p.1) (zip xs ys)) 0 n ≡ map (λ p. p.0 || p.1) (zip (bits_of xs 0 n) (bits_of ys 0 n))
either_bits xs ys n l h = by_pairs bit_or (λ x y. x || y) or_bit xs ys n l h

pub opposite_bits : (xs : List ℕ) (n : ℕ) → n ≤ 8 * length xs → bits_of (map (λ x. bit_xor x 255) xs) 0 n ≡ map not (bits_of xs 0 n)
opposite_bits xs n l =
    let turn : ℕ → ℕ = λ x. bit_xor x 255 in
    contraries (bits_of xs 0 n) (bits_of (map turn xs) 0 n) n (sym (bit_count xs 0 n)) (bit_count (map turn xs) 0 n) (λ i b.
    let small : i % 8 < 8 = omega arith in
    bit_here (map turn xs) (bits_of (map turn xs) 0 n) n i refl b ∙ ap (λ m. bit_at m (i % 8) == 1) (get_or-map turn xs (i / 8) 0 0 (omega arith)) ∙ not_bit (slice_index xs (i / 8)) (i % 8) small ∙ sym (ap not (bit_here xs (bits_of xs 0 n) n i refl b)))

-- the bits of two packed lists, combined
pub met : (op : ℕ → ℕ → ℕ) (f : Bool → Bool → Bool) → ((xs ys : List ℕ) (n : ℕ) → n ≤ 8 * length xs → n ≤ 8 * length ys → bits_of (map (λ p. op p.0 p.1) (zip xs ys)) 0 n ≡ map (λ p. f p.0 p.1) (zip (bits_of xs 0 n) (bits_of ys 0 n))) → (mine theirs xs ys bytes : List ℕ) (a b : List Bool) (n : ℕ) → xs ≡ mine → ys ≡ theirs → n ≡ length a → length a ≡ length b → length a ≤ 8 * length mine → length b ≤ 8 * length theirs → bits_of mine 0 (length a) ≡ a → bits_of theirs 0 (length b) ≡ b → bytes ≡ map (λ p. op p.0 p.1) (zip xs ys) → bits_of bytes 0 n ≡ map (λ p. f p.0 p.1) (zip a b)
met op f each mine theirs xs ys bytes a b n x y e same l h p q is =
    let lent : bytes ≡ map (λ p. op p.0 p.1) (zip mine theirs) = is ∙ ap (λ l. map (λ p. op p.0 p.1) (zip l ys)) x ∙ ap (λ l. map (λ p. op p.0 p.1) (zip mine l)) y in
    let first : bits_of mine 0 n ≡ a = ap (bits_of mine 0) e ∙ p in
    let second : bits_of theirs 0 n ≡ b = ap (bits_of theirs 0) (e ∙ same) ∙ q in
    ap (λ l. bits_of l 0 n) lent ∙ each mine theirs n (omega arith) (omega arith) ∙ ap (λ l. map (λ p. f p.0 p.1) (zip l (bits_of theirs 0 n))) first ∙ ap (λ l. map (λ p. f p.0 p.1) (zip a l)) second

pub met_room : (op : ℕ × ℕ → ℕ) (mine theirs xs ys bytes : List ℕ) (a b : List Bool) (n : ℕ) → xs ≡ mine → ys ≡ theirs → n ≡ length a → length a ≡ length b → length a ≤ 8 * length mine → length b ≤ 8 * length theirs → bytes ≡ map op (zip xs ys) → n ≤ 8 * length bytes
met_room op mine theirs xs ys bytes a b n x y e same l h is = omega (arith, ap length is, length-map (zip xs ys) op, length-zip xs ys, ap length x, ap length y)

pub turned_room : (op : ℕ → ℕ) (mine xs bytes : List ℕ) (a : List Bool) (n : ℕ) → xs ≡ mine → n ≡ length a → length a ≤ 8 * length mine → bytes ≡ map op xs → n ≤ 8 * length bytes
turned_room op mine xs bytes a n x e l is = omega (arith, ap length is, length-map xs op, ap length x)

pub all_turned : (mine xs bytes : List ℕ) (a : List Bool) (n : ℕ) → xs ≡ mine → n ≡ length a → length a ≤ 8 * length mine → bits_of mine 0 (length a) ≡ a → bytes ≡ map (λ x. bit_xor x 255) xs → bits_of bytes 0 n ≡ map not a
all_turned mine xs bytes a n x e l p is = ap (λ l. bits_of l 0 n) (is ∙ ap (map (λ x. bit_xor x 255)) x) ∙ opposite_bits mine n (omega arith) ∙ ap (map not) (ap (bits_of mine 0) e ∙ p)
