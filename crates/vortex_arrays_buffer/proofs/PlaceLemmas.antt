-- Integers that are indices.
use Rattle.std.proofs.Common.{◌≡◌, ℕ, ℤ, pos, negsuc, ◌+◌, ◌≤◌, ◌<◌, ◌↔◌, IsTrue, inl, inr, List, Bool, false, length, map, get_or, sym, subst, ◌∙◌, arith}
use Rattle.std.specs.List.{All}
use Rattle.std.specs.Prelude.{unsigned_abs}
use Rattle.std.proofs.lemmas.Bool.{cases_eq, cases_lt}
use Rattle.std.proofs.lemmas.List.{ext_get_or, get_or-map, get_or_default, get_or_past, length-map, map-id}
use Rattle.vortex_arrays_buffer.specs.Bits.{bit_of, bits_of}
use Rattle.vortex_arrays_buffer.specs.Places.{IsPlace, ArePlacesWhere, bit_at_number}
use Rattle.vortex_arrays_buffer.proofs.BitLemmas.{bit_in}

pub one_more : (n : ℕ) (zs : List ℤ) (i : ℕ) (z : ℤ) → ((k : ℕ) → k < i → IsPlace n (get_or zs k (pos 0))) → z ≡ get_or zs i (pos 0) → IsPlace n z → (k : ℕ) → k < i + 1 → IsPlace n (get_or zs k (pos 0))
one_more n zs i z before at here k l = elim (cases_eq k i) [
  | inl e ↦ subst (λ j. IsPlace n (get_or zs j (pos 0))) (sym e) (subst (IsPlace n) at here)
  | inr d ↦ before k (omega arith)
]

pub all_places : {X : Type 0} (f : X → ℤ) (xs : List X) (n i : ℕ) → ((k : ℕ) → k < i → IsPlace n (get_or (map f xs) k (pos 0))) → length xs ≡ i → All (IsPlace n) (map f xs)
all_places f xs n i h all k d l = subst (IsPlace n) (get_or_default (map f xs) k (pos 0) d l) (h k (omega (arith, length-map xs f)))

pub a_place : {X : Type 0} (f : X → ℤ) (xs : List X) (n i : ℕ) (z : ℤ) → z ≡ get_or (map f xs) i (pos 0) → i < length xs → All (IsPlace n) (map f xs) → IsPlace n z
a_place f xs n i z at l all = subst (IsPlace n) (sym at) (all i (pos 0) (omega (arith, length-map xs f)))

pub same_places : (n : ℕ) (xs ys : List ℤ) (b : Bool) → ys ≡ xs → (IsTrue b ↔ All (IsPlace n) (map (λ z. z) ys)) → (IsTrue b ↔ All (IsPlace n) xs)
same_places n xs ys b e h = subst (λ zs. IsTrue b ↔ All (IsPlace n) zs) (map-id ys ∙ e) h

-- the bit at an integer that is an index, and false at another
pub bit_there : (bytes : List ℕ) (start len : ℕ) (z : ℤ) (b : Bool) → IsPlace len z → b ≡ bit_of bytes (start + unsigned_abs z) → b ≡ bit_at_number (bits_of bytes start len) z
bit_there bytes start len (pos i) b l e = e ∙ sym (bit_in bytes start len i false l)
bit_there bytes start len (negsuc i) b l e = absurd l

pub no_bit_there : (bits : List Bool) (n : ℕ) (z : ℤ) (b : Bool) → length bits ≡ n → (IsPlace n z → ⊥) → b ≡ false → b ≡ bit_at_number bits z
no_bit_there bits n (pos i) b e h is = elim (cases_lt i n) [
  | inl l ↦ absurd (h l)
  | inr m ↦ is ∙ sym (get_or_past bits i false (omega (arith, e)))
]
no_bit_there bits n (negsuc i) b e h is = is

-- the bits at each integer make the list
pub bits_there : {X : Type 0} (f : X → ℤ) (bits ys : List Bool) (xs : List X) (n : ℕ) → n ≡ length xs → length ys ≡ n → ((i : ℕ) → i < n → get_or ys i false ≡ bit_at_number bits (get_or (map f xs) i (pos 0))) → ys ≡ map (bit_at_number bits) (map f xs)
bits_there f bits ys xs n e many h =
    let all : length (map f xs) ≡ n = length-map xs f ∙ sym e in
    ext_get_or false ys (map (bit_at_number bits) (map f xs)) (many ∙ sym all ∙ sym (length-map (map f xs) (bit_at_number bits))) (λ k l. h k (omega arith) ∙ sym (get_or-map (bit_at_number bits) (map f xs) k (pos 0) false (omega arith)))

-- one more integer whose bit is true
pub one_more_where : (bits : List Bool) (n : ℕ) (zs : List ℤ) (i : ℕ) (z : ℤ) → ((k : ℕ) → k < i → IsTrue (get_or bits k false) → IsPlace n (get_or zs k (pos 0))) → z ≡ get_or zs i (pos 0) → (IsTrue (get_or bits i false) → IsPlace n z) → (k : ℕ) → k < i + 1 → IsTrue (get_or bits k false) → IsPlace n (get_or zs k (pos 0))
one_more_where bits n zs i z before at here k l t = elim (cases_eq k i) [
  | inl e ↦ subst (λ j. IsPlace n (get_or zs j (pos 0))) (sym e) (subst (IsPlace n) at (here (subst (λ j. IsTrue (get_or bits j false)) e t)))
  | inr d ↦ before k (omega arith) t
]

pub all_where : {X : Type 0} (f : X → ℤ) (bits : List Bool) (xs : List X) (n i : ℕ) → ((k : ℕ) → k < i → IsTrue (get_or bits k false) → IsPlace n (get_or (map f xs) k (pos 0))) → length xs ≤ i → ArePlacesWhere bits n (map f xs)
all_where f bits xs n i h all k l t = h k (omega (arith, length-map xs f)) t
