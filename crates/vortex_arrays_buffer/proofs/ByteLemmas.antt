-- The eight bits of a byte, and bits of ranges of bytes.
use Rattle.std.proofs.Common.{◌≡◌, ℕ, zero, suc, ◌+◌, ◌-◌, ◌*◌, ◌/◌, ◌%◌, ◌^◌, ◌++◌, ◌≤◌, ◌<◌, List, [], ◌∷◌, Bool, false, ◌==◌, length, take, get_or, set, replicate, slice_index, refl, sym, ap, ◌∙◌, arith, append_assoc}
use Rattle.std.proofs.lemmas.List.{append-nil, take_more, take_more_set, take_all, length-set, length-replicate}
use Rattle.std.specs.Prelude.{bit_and}
use Rattle.std.specs.Int.{bit_at}
use Rattle.std.proofs.lemmas.Nat.Bits.{shr_and_one}
use Rattle.vortex_arrays_buffer.specs.Bits.{bit_of, bits_of}
use Rattle.vortex_arrays_buffer.proofs.BitLemmas.{bit_count}

-- a bit of the byte at k, where i is its index
pub bit_of_byte : (bytes : List ℕ) (k b i j : ℕ) → j < 8 → i ≡ 8 * k + j → b ≡ slice_index bytes k → bit_of bytes i ≡ (bit_at b j == 1)
bit_of_byte bytes k b i j l e is =
    let byte : i / 8 ≡ k = omega arith in
    let place : i % 8 ≡ j = omega arith in
    ap (λ m. bit_at (slice_index bytes m) (i % 8) == 1) byte ∙ ap (λ m. bit_at (slice_index bytes k) m == 1) place ∙ ap (λ n. bit_at n j == 1) (sym is)

bit_in_byte : (bytes : List ℕ) (k b i j : ℕ) → j < 8 → i ≡ 8 * k + j → b ≡ slice_index bytes k → bit_of bytes i ≡ (bit_and (b / 2 ^ j) 1 == 1)
bit_in_byte bytes k b i j l e is = bit_of_byte bytes k b i j l e is ∙ ap (λ n. n == 1) (sym (shr_and_one b j))

eight : (a b c d e f g h a' b' c' d' e' f' g' h' : Bool) → a ≡ a' → b ≡ b' → c ≡ c' → d ≡ d' → e ≡ e' → f ≡ f' → g ≡ g' → h ≡ h' → (a ∷ b ∷ c ∷ d ∷ e ∷ f ∷ g ∷ h ∷ []) ≡ (a' ∷ b' ∷ c' ∷ d' ∷ e' ∷ f' ∷ g' ∷ h' ∷ [])
eight a b c d e f g h a' b' c' d' e' f' g' h' p q r s t u v w = cc

-- the bits of a byte, the lowest first
abbrev pub eight_of : ℕ → List Bool
eight_of b = (bit_and b 1 == 1) ∷ (bit_and (b / 2 ^ 1) 1 == 1) ∷ (bit_and (b / 2 ^ 2) 1 == 1) ∷ (bit_and (b / 2 ^ 3) 1 == 1) ∷ (bit_and (b / 2 ^ 4) 1 == 1) ∷ (bit_and (b / 2 ^ 5) 1 == 1) ∷ (bit_and (b / 2 ^ 6) 1 == 1) ∷ (bit_and (b / 2 ^ 7) 1 == 1) ∷ []

pub eight_are : (bytes : List ℕ) (k b : ℕ) → b ≡ slice_index bytes k → bits_of bytes (8 * k) 8 ≡ eight_of b
eight_are bytes k b is =
    let whole : b / 2 ^ 0 ≡ b = omega arith in
    eight _ _ _ _ _ _ _ _ _ _ _ _ _ _ _ _
    (bit_in_byte bytes k b (8 * k) 0 (omega arith) (omega arith) is ∙ ap (λ n. bit_and n 1 == 1) whole)
    (bit_in_byte bytes k b (8 * k + 1) 1 (omega arith) (omega arith) is)
    (bit_in_byte bytes k b (8 * k + 1 + 1) 2 (omega arith) (omega arith) is)
    (bit_in_byte bytes k b (8 * k + 1 + 1 + 1) 3 (omega arith) (omega arith) is)
    (bit_in_byte bytes k b (8 * k + 1 + 1 + 1 + 1) 4 (omega arith) (omega arith) is)
    (bit_in_byte bytes k b (8 * k + 1 + 1 + 1 + 1 + 1) 5 (omega arith) (omega arith) is)
    (bit_in_byte bytes k b (8 * k + 1 + 1 + 1 + 1 + 1 + 1) 6 (omega arith) (omega arith) is)
    (bit_in_byte bytes k b (8 * k + 1 + 1 + 1 + 1 + 1 + 1 + 1) 7 (omega arith) (omega arith) is)

-- the bits of two adjacent ranges
pub bits_joined : (bytes : List ℕ) (start n m next : ℕ) → start + n ≡ next → bits_of bytes start (n + m) ≡ bits_of bytes start n ++ bits_of bytes next m
bits_joined bytes start zero m next e =
    let all : 0 + m ≡ m = omega arith in
    let same : start ≡ next = omega arith in
    ap (bits_of bytes start) all ∙ ap (λ s. bits_of bytes s m) same
bits_joined bytes start (suc n) m next e =
    let all : suc n + m ≡ suc (n + m) = omega arith in
    ap (bits_of bytes start) all ∙ ap (λ bits. bit_of bytes start ∷ bits) (bits_joined bytes (start + 1) n m next (omega arith))

pub sixteen_are : (bytes : List ℕ) (k low high : ℕ) → low ≡ slice_index bytes k → high ≡ slice_index bytes (k + 1) → bits_of bytes (8 * k) 16 ≡ eight_of low ++ eight_of high
sixteen_are bytes k low high is next =
    bits_joined bytes (8 * k) 8 8 (8 * (k + 1)) (omega arith)
    ∙ ap (λ bits. bits ++ bits_of bytes (8 * (k + 1)) 8) (eight_are bytes k low is) ∙ ap (λ bits. eight_of low ++ bits) (eight_are bytes (k + 1) high next)

-- what a loop from `start` has at i, and then at next
pub joined_behind : (old : List Bool) (bytes : List ℕ) (start i next n : ℕ) → start ≤ i → i + n ≡ next → (old ++ bits_of bytes start (i - start)) ++ bits_of bytes i n ≡ old ++ bits_of bytes start (next - start)
joined_behind old bytes start i next n l e =
    let many : i - start + n ≡ next - start = omega arith in
    append_assoc old (bits_of bytes start (i - start)) (bits_of bytes i n)
    ∙ ap (λ bits. old ++ bits) (sym (bits_joined bytes start (i - start) n i (omega arith)) ∙ ap (bits_of bytes start) many)

pub none_yet : (old : List Bool) (bytes : List ℕ) (start n : ℕ) → n ≡ 0 → old ≡ old ++ bits_of bytes start n
none_yet old bytes start n e = sym (append-nil old) ∙ ap (λ m. old ++ bits_of bytes start m) (sym e)

pub one_more : (old : List Bool) (bytes : List ℕ) (start i : ℕ) (b : Bool) → start ≤ i → b ≡ bit_of bytes i → (old ++ bits_of bytes start (i - start)) ++ b ∷ [] ≡ old ++ bits_of bytes start (i + 1 - start)
one_more old bytes start i b l is = ap (λ x. (old ++ bits_of bytes start (i - start)) ++ x ∷ []) is ∙ joined_behind old bytes start i (i + 1) 1 l refl

-- the first i of sixteen flags are written from an index on
pub record Put (old flags now : List Bool) (at i : ℕ) : Type 0 where
  pub front : take (at + i) now ≡ take at old ++ take i flags
  pub same : length now ≡ length old

pub put_none : (old flags : List Bool) (at : ℕ) → Put old flags old at 0
put_none old flags at =
    let none : at + 0 ≡ at = omega arith in
    record { front = ap (λ n. take n old) none ∙ sym (append-nil (take at old)); same = refl }

pub put_more : (old flags now : List Bool) (at i : ℕ) (bytes : List ℕ) (k : ℕ) → at + 16 ≤ length old → i < 16 → flags ≡ bits_of bytes (8 * k) 16 → Put old flags now at i → Put old flags (set now (at + i) (get_or flags i false)) at (i + 1)
put_more old flags now at i bytes k room l is p =
    let next : at + (i + 1) ≡ at + i + 1 = omega arith in
    let many : length flags ≡ 16 = ap length is ∙ bit_count bytes (8 * k) 16 in
    let within : i < length flags = omega (arith, many) in
    let place : at + i < length now = omega (arith, p.same) in
    record {
      front = ap (λ n. take n (set now (at + i) (get_or flags i false))) next ∙ take_more_set now (at + i) (get_or flags i false) place
          ∙ ap (λ xs. xs ++ get_or flags i false ∷ []) p.front ∙ append_assoc (take at old) (take i flags) (get_or flags i false ∷ [])
          ∙ ap (λ xs. take at old ++ xs) (sym (take_more flags i false within));
      same = length-set now (at + i) (get_or flags i false) ∙ p.same;
    }

pub put_all : (old flags now : List Bool) (at i : ℕ) (bytes : List ℕ) (k : ℕ) → i ≡ 16 → flags ≡ bits_of bytes (8 * k) 16 → Put old flags now at i → take (at + 16) now ≡ take at old ++ bits_of bytes (8 * k) 16
put_all old flags now at i bytes k e is p =
    let many : length flags ≡ 16 = ap length is ∙ bit_count bytes (8 * k) 16 in
    ap (λ n. take (at + n) now) (sym e) ∙ p.front ∙ ap (λ xs. take at old ++ xs) (take_all i flags (omega (arith, many, e)) ∙ is)

-- there is room for the bits of all pairs of bytes, and those of the first j pairs are written
pub record Spread (flags : List Bool) (bytes : List ℕ) (first pairs j : ℕ) : Type 0 where
  pub many : length flags ≡ 16 * pairs
  pub placed : take (16 * j) flags ≡ bits_of bytes (8 * first) (16 * j)

pub spread_none : (bytes : List ℕ) (first pairs : ℕ) → Spread (replicate (16 * pairs) false) bytes first pairs 0
spread_none bytes first pairs = record { many = length-replicate (16 * pairs) false; placed = refl }

pub spread_more : (old now : List Bool) (bytes : List ℕ) (first pairs j : ℕ) → take (16 * j + 16) now ≡ take (16 * j) old ++ bits_of bytes (8 * (first + 2 * j)) 16 → length now ≡ length old → Spread old bytes first pairs j → Spread now bytes first pairs (j + 1)
spread_more old now bytes first pairs j front same s =
    let next : 16 * j + 16 ≡ 16 * (j + 1) = omega arith in
    record {
      many = same ∙ s.many;
      placed = ap (λ n. take n now) (sym next) ∙ front ∙ ap (λ xs. xs ++ bits_of bytes (8 * (first + 2 * j)) 16) s.placed
          ∙ sym (bits_joined bytes (8 * first) (16 * j) 16 (8 * (first + 2 * j)) (omega arith)) ∙ ap (bits_of bytes (8 * first)) next;
    }

pub spread_all : (flags : List Bool) (bytes : List ℕ) (first pairs j : ℕ) → j ≡ pairs → Spread flags bytes first pairs j → flags ≡ bits_of bytes (8 * first) (16 * pairs)
spread_all flags bytes first pairs j e s =
    sym (take_all (16 * j) flags (omega (arith, s.many, e))) ∙ s.placed ∙ ap (λ n. bits_of bytes (8 * first) (16 * n)) e

pub ruleset unpacked = (spread_none, spread_all)

-- the bits before a range of m bits from a to b, those of the range, and those after it
pub three_parts : (bytes : List ℕ) (start a m b end : ℕ) → start ≤ a → a + m ≡ b → b ≤ end → (bits_of bytes start (a - start) ++ bits_of bytes a m) ++ bits_of bytes b (end - b) ≡ bits_of bytes start (end - start)
three_parts bytes start a m b end before e behind =
    let two : a - start + m ≡ b - start = omega arith in
    let three : b - start + (end - b) ≡ end - start = omega arith in
    ap (λ xs. xs ++ bits_of bytes b (end - b)) (sym (bits_joined bytes start (a - start) m a (omega arith)) ∙ ap (bits_of bytes start) two)
    ∙ sym (bits_joined bytes start (b - start) (end - b) b (omega arith)) ∙ ap (bits_of bytes start) three

-- what three calls add one after another
pub added_in_turn : (bytes : List ℕ) (start a m b end : ℕ) (none before inside all : List Bool) → start ≤ a → a + m ≡ b → b ≤ end → none ≡ [] → before ≡ none ++ bits_of bytes start (a - start) → inside ≡ before ++ bits_of bytes a m → all ≡ inside ++ bits_of bytes b (end - b) → all ≡ bits_of bytes start (end - start)
added_in_turn bytes start a m b end none before inside all l e r is first second third =
    third ∙ ap (λ xs. xs ++ bits_of bytes b (end - b)) (second ∙ ap (λ xs. xs ++ bits_of bytes a m) (first ∙ ap (λ xs. xs ++ bits_of bytes start (a - start)) is))
    ∙ three_parts bytes start a m b end l e r
