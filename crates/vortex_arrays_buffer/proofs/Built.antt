-- Bytes whose bits are set one after another.
use Rattle.std.proofs.Common.{◌≡◌, ◌≢◌, ℕ, zero, suc, ◌+◌, ◌*◌, ◌/◌, ◌%◌, ◌++◌, ◌≤◌, ◌<◌, inl, inr, Result, Ok, Err, IfOk, List, Bool, true, false, not, ◌||◌, ◌==◌, nat_eq, length, map, take, drop, get_or, replicate, refl, sym, ap, ◌∙◌, arith}
use Rattle.std.specs.Int.{bit_at}
use Rattle.std.specs.List.{list_any, zip}
use Rattle.std.proofs.lemmas.Bool.{cases_eq, eq-eqb, ne_eqb}
use Rattle.std.proofs.lemmas.List.{ext_get_or, get_or-map, get_or-replicate, length-map, length-replicate, take_all, take_at}
use Rattle.std.proofs.lemmas.List.Folds.{list_any_more}
use Rattle.std.proofs.lemmas.List.FromFn.{fill_by_all, get_or-map-range_with_len}
use Rattle.std.proofs.lemmas.Nat.Bits.{bit_at_ones, bit_at-zero}
use Rattle.std.proofs.lemmas.Slice.Zip.{length-zip, get_or-zip}
use Rattle.std.proofs.Math.Bool.{or-true, or-false}
use Rattle.vortex_arrays_buffer.specs.Bits.{bit_of, bits_of, bits_at}
use Rattle.vortex_arrays_buffer.proofs.BitLemmas.{bit_count}

-- the first bits are these where each of them is
pub bits_are : (bytes : List ℕ) (n : ℕ) (bits : List Bool) → length bits ≡ n → ((k : ℕ) → k < n → get_or bits k false ≡ bit_of bytes k) → bits_of bytes 0 n ≡ bits
bits_are bytes n bits l h = sym (fill_by_all (bit_of bytes) bits n false l h)

zeros : (m k : ℕ) → get_or {A = ℕ} (replicate m 0) k 0 ≡ 0
zeros zero k = refl
zeros (suc m) zero = refl
zeros (suc m) (suc k) = zeros m k

pub zero_bit : (m j : ℕ) → bit_of (replicate m 0) j ≡ false
zero_bit m j = ap (λ n. bit_at n (j % 8) == 1) (zeros m (j / 8)) ∙ ap (λ n. n == 1) (bit_at-zero (j % 8))

pub all_unset : (n m : ℕ) → bits_of (replicate m 0) 0 n ≡ replicate n false
all_unset n m = bits_are (replicate m 0) n (replicate n false) (length-replicate n false) (λ k l. get_or-replicate n k false false l ∙ sym (zero_bit m k))

one_bit : (m j : ℕ) → j < 8 * m → bit_of (replicate m 255) j ≡ true
one_bit m j l =
    let small : j % 8 < 8 = omega arith in
    ap (λ n. bit_at n (j % 8) == 1) (get_or-replicate m (j / 8) 255 0 (omega arith)) ∙ ap (λ n. n == 1) (bit_at_ones 8 (j % 8) small)

pub all_set : (n m : ℕ) → n ≤ 8 * m → bits_of (replicate m 255) 0 n ≡ replicate n true
all_set n m h = bits_are (replicate m 255) n (replicate n true) (length-replicate n true) (λ k l. get_or-replicate n k true false l ∙ sym (one_bit m k (omega arith)))

-- the items of a vector of length n, after all of them were written
pub written : (n : ℕ) (new old : List ℕ) → n ≡ length old → length new ≡ length old → take n (new ++ drop (length new) old) ≡ new
written n new old e same = take_at new (drop (length new) old) n (omega arith)

-- two facts that make one list
pub made_of : {E : Type 0} (r : Result (List Bool) E) (P Q : List Bool → Type 0) (all : List Bool) → IfOk r P → IfOk r Q → ((b : List Bool) → P b → Q b → b ≡ all) → IfOk r (λ b. b ≡ all)
made_of (Ok b) P Q all p q f = f b p q
made_of (Err e) P Q all p q f = tt

-- the items at each index make the list
pub contraries : (xs ys : List Bool) (n : ℕ) → n ≡ length xs → length ys ≡ n → ((i : ℕ) → i < n → get_or ys i false ≡ not (get_or xs i false)) → ys ≡ map not xs
contraries xs ys n e many h = ext_get_or false ys (map not xs) (many ∙ e ∙ sym (length-map xs not)) (λ k l. let m : k < n = omega arith in h k m ∙ sym (get_or-map not xs k false false (omega arith)))

pub pairwise : (f : Bool → Bool → Bool) (xs ys zs : List Bool) (n : ℕ) → n ≡ length xs → length xs ≡ length ys → length zs ≡ n → ((i : ℕ) → i < n → get_or zs i false ≡ f (get_or xs i false) (get_or ys i false)) → zs ≡ map (λ p. f p.0 p.1) (zip xs ys)
pairwise f xs ys zs n e same many h =
    let both : length (zip xs ys) ≡ length xs = omega (arith, length-zip xs ys) in
    let pair : Bool × Bool → Bool = λ p. f p.0 p.1 in
    ext_get_or false zs (map pair (zip xs ys)) (many ∙ e ∙ sym (length-map (zip xs ys) pair ∙ both)) (λ k l.
    let m : k < n = omega arith in
    h k m ∙ sym (get_or-map pair (zip xs ys) k (false, false) false (omega arith) ∙ ap pair (get_or-zip xs ys k (false, false) (omega arith) (omega arith))))

pub chosen : (xs ys : List Bool) (places : List ℕ) (n : ℕ) → n ≡ length places → length ys ≡ n → ((i : ℕ) → i < n → get_or ys i false ≡ get_or xs (get_or places i 0) false) → ys ≡ map (λ i. get_or xs i false) places
chosen xs ys places n e many h = ext_get_or false ys (map (λ i. get_or xs i false) places) (many ∙ e ∙ sym (length-map places (λ i. get_or xs i false))) (λ k l. let m : k < n = omega arith in h k m ∙ sym (get_or-map (λ i. get_or xs i false) places k 0 false (omega arith)))

-- the bits at the first i of the indices are set, and no others
pub record HasPlaces (bytes places : List ℕ) (i n : ℕ) : Type 0 where
  pub set : (j : ℕ) → bit_of bytes j ≡ list_any (nat_eq j) (take i places)
  pub room : n ≤ 8 * length bytes

pub places_none : (m n : ℕ) (places : List ℕ) → n ≤ 8 * m → HasPlaces (replicate m 0) places 0 n
places_none m n places h = record { set = λ j. zero_bit m j; room = omega (arith, length-replicate {A = ℕ} m 0) }

one_more : (old new places : List ℕ) (i n p : ℕ) → HasPlaces old places i n → i < length places → p ≡ get_or places i p → bit_of new p ≡ true → ((j : ℕ) → j ≢ p → bit_of new j ≡ bit_of old j) → length new ≡ length old → HasPlaces new places (i + 1) n
one_more old new places i n p f l at here others same = record {
  set = λ j. elim (cases_eq j p) [
    | inl e ↦ ap (bit_of new) e ∙ here ∙ sym (list_any_more (nat_eq j) places i p l ∙ ap (λ b. list_any (nat_eq j) (take i places) || b) (eq-eqb j (get_or places i p) (e ∙ at)) ∙ or-true (list_any (nat_eq j) (take i places)))
    | inr d ↦ others j d ∙ f.set j ∙ sym (list_any_more (nat_eq j) places i p l ∙ ap (λ b. list_any (nat_eq j) (take i places) || b) (ne_eqb j (get_or places i p) (λ q. d (q ∙ sym at))) ∙ or-false (list_any (nat_eq j) (take i places)))
  ];
  room = omega (arith, f.room);
}

pub places_more : (old new places : List ℕ) (i n m p : ℕ) → m ≡ length old → HasPlaces old places i n → i < length places → p ≡ get_or places i p → bit_of new p ≡ true → ((j : ℕ) → j ≢ p → bit_of new j ≡ bit_of old j) → length new ≡ length old → HasPlaces (take m (new ++ drop (length new) old)) places (i + 1) n
places_more old new places i n m p e f l at here others same = rw (written m new old e same) (one_more old new places i n p f l at here others same)

pub places_all : (bytes places : List ℕ) (i n : ℕ) → length places ≤ i → HasPlaces bytes places i n → bits_of bytes 0 n ≡ bits_at n places
places_all bytes places i n e f = fill_by_all (λ j. list_any (nat_eq j) places) (bits_of bytes 0 n) n false (bit_count bytes 0 n) (λ k l. get_or-map-range_with_len (bit_of bytes) 0 n k k false l (omega arith) ∙ f.set k ∙ ap (list_any (nat_eq k)) (take_all i places e))

pub ruleset places_set = (places_none, places_more, places_all)
