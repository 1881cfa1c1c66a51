-- Indices of true bits, written one after another.
use Rattle.std.proofs.Common.{◌≡◌, ℕ, suc, ◌+◌, ◌-◌, ◌*◌, ◌/◌, ◌^◌, ◌++◌, ◌≤◌, ◌<◌, List, [], ◌∷◌, Bool, true, false, cond, length, take, drop, set, slice_index, refl, sym, ap, subst, ◌∙◌, arith, append_assoc}
use Rattle.std.specs.Prelude.{bit_and}
use Rattle.std.specs.Int.{bit_at}
use Rattle.std.specs.List.{count_by}
use Rattle.std.proofs.lemmas.List.{append-nil, take_more_set, take-set, take_all, take_at, length-append, length-set}
use Rattle.std.proofs.lemmas.List.Sums.{sum_by-append}
use Rattle.std.proofs.lemmas.Nat.Bits.{bit_at-lt, shr_and_one}
use Rattle.vortex_arrays_buffer.specs.Bits.{bit_of, bits_of, positions_from, positions_of}
use Rattle.vortex_arrays_buffer.specs.Places.{AddsPlaces}
use Rattle.vortex_arrays_buffer.proofs.BitLemmas.{bit_count}
use Rattle.vortex_arrays_buffer.proofs.ByteLemmas.{bit_of_byte, bits_joined, eight_of, eight_are, three_parts}
use Rattle.vortex_arrays_buffer.proofs.Counts.{trues_in, digit, few_trues, three_counted}

pub positions_joined : (at next : ℕ) (xs ys : List Bool) → at + length xs ≡ next → positions_from at (xs ++ ys) ≡ positions_from at xs ++ positions_from next ys
positions_joined at next [] ys e = let same : at ≡ next = omega arith in ap (λ k. positions_from k ys) same
positions_joined at next (true ∷ xs) ys e = ap (λ l. at ∷ l) (positions_joined (suc at) next xs ys (omega arith))
positions_joined at next (false ∷ xs) ys e = positions_joined (suc at) next xs ys (omega arith)

-- what a call adds that begins where another ended
placed_joined : (old mid new : List ℕ) (m k n at next : ℕ) (bits more : List Bool) → AddsPlaces old m at bits mid k → at + length bits ≡ next → AddsPlaces mid k next more new n → AddsPlaces old m at (bits ++ more) new n
placed_joined old mid new m k n at next bits more p e q =
    let both : count_by (λ b. b) (bits ++ more) ≡ count_by (λ b. b) bits + count_by (λ b. b) more = sum_by-append (λ x. cond x 1 0) bits more in
    record {
      placed = q.placed ∙ ap (λ l. l ++ positions_from next more) p.placed ∙ append_assoc (take m old) (positions_from at bits) (positions_from next more)
          ∙ ap (λ l. take m old ++ l) (sym (positions_joined at next bits more e));
      counted = omega (arith, both, p.counted, q.counted);
      same = q.same ∙ p.same;
    }

pub placed_none : (old : List ℕ) (m at : ℕ) → AddsPlaces old m at [] old m
placed_none old m at = record { placed = sym (append-nil (take m old)); counted = omega arith; same = refl }

one_placed : (now : List ℕ) (n p : ℕ) (b : Bool) → n < length now → AddsPlaces now n p (b ∷ []) (set now n p) (n + cond b 1 0)
one_placed now n p true l = record { placed = take_more_set now n p l; counted = refl; same = length-set now n p }
one_placed now n p false l = record {
  placed = let none : n + 0 ≡ n = omega arith in ap (λ k. take k (set now n p)) none ∙ take-set now n p ∙ sym (append-nil (take n now));
  counted = refl;
  same = length-set now n p;
}

not_placed : (now : List ℕ) (n p : ℕ) → AddsPlaces now n p (false ∷ []) now n
not_placed now n p = record { placed = sym (append-nil (take n now)); counted = omega arith; same = refl }

-- n bits, and one more
bits_more : (bytes : List ℕ) (start j : ℕ) (b : Bool) → b ≡ bit_of bytes (start + j) → bits_of bytes start j ++ b ∷ [] ≡ bits_of bytes start (j + 1)
bits_more bytes start j b is = ap (λ x. bits_of bytes start j ++ x ∷ []) is ∙ sym (bits_joined bytes start j 1 (start + j) refl)

placed_bit : (old now : List ℕ) (m at n p start j : ℕ) (bytes : List ℕ) (b : Bool) → b ≡ bit_of bytes (start + j) → at + j ≡ p → n < length now → AddsPlaces old m at (bits_of bytes start j) now n → AddsPlaces old m at (bits_of bytes start (j + 1)) (set now n p) (n + cond b 1 0)
placed_bit old now m at n p start j bytes b is e room a =
    subst (λ xs. AddsPlaces old m at xs (set now n p) (n + cond b 1 0)) (bits_more bytes start j b is)
    (placed_joined old now (set now n p) m n (n + cond b 1 0) at p (bits_of bytes start j) (b ∷ []) a (ap (λ k. at + k) (bit_count bytes start j) ∙ e) (one_placed now n p b room))

-- the number of true bits in a prefix
few_in_front : (bytes : List ℕ) (start n m : ℕ) → n ≤ m → trues_in bytes start n ≤ trues_in bytes start m
few_in_front bytes start n m l =
    let all : n + (m - n) ≡ m = omega arith in
    let both : trues_in bytes start (n + (m - n)) ≡ trues_in bytes start n + trues_in bytes (start + n) (m - n) = ap (count_by (λ b. b)) (bits_joined bytes start n (m - n) (start + n) refl) ∙ sum_by-append (λ x. cond x 1 0) (bits_of bytes start n) (bits_of bytes (start + n) (m - n)) in
    let same : trues_in bytes start m ≡ trues_in bytes start n + trues_in bytes (start + n) (m - n) = ap (trues_in bytes start) (sym all) ∙ both in
    omega (arith, same)

-- there is room for the index of a true bit
pub room_for_bit : (old now : List ℕ) (m at n start j count : ℕ) (bytes : List ℕ) (b : Bool) → j < count → b ≡ bit_of bytes (start + j) → b ≡ true → m + count_by (λ x. x) (bits_of bytes start count) ≤ length old → AddsPlaces old m at (bits_of bytes start j) now n → n < length now
room_for_bit old now m at n start j count bytes b l is true_bit room a =
    let more : trues_in bytes start (j + 1) ≡ trues_in bytes start j + 1 = ap (count_by (λ x. x)) (sym (bits_more bytes start j b is)) ∙ sum_by-append (λ x. cond x 1 0) (bits_of bytes start j) (b ∷ []) ∙ ap (λ x. trues_in bytes start j + count_by (λ y. y) (x ∷ [])) true_bit in
    omega (arith, more, few_in_front bytes start (j + 1) count (omega arith), a.counted, a.same, room)

pub placed_yes : (old now : List ℕ) (m at n p start j : ℕ) (bytes : List ℕ) (b : Bool) → b ≡ bit_of bytes (start + j) → b ≡ true → at + j ≡ p → n < length now → AddsPlaces old m at (bits_of bytes start j) now n → AddsPlaces old m at (bits_of bytes start (j + 1)) (set now n p) (n + 1)
placed_yes old now m at n p start j bytes b is true_bit e room a = placed_bit old now m at n p start j bytes true (sym true_bit ∙ is) e room a

pub placed_no : (old now : List ℕ) (m at n start j : ℕ) (bytes : List ℕ) (b : Bool) → b ≡ bit_of bytes (start + j) → b ≡ false → AddsPlaces old m at (bits_of bytes start j) now n → AddsPlaces old m at (bits_of bytes start (j + 1)) now n
placed_no old now m at n start j bytes b is false_bit a =
    subst (λ xs. AddsPlaces old m at xs now n) (bits_more bytes start j false (sym false_bit ∙ is))
    (placed_joined old now now m n n at (at + j) (bits_of bytes start j) (false ∷ []) a (ap (λ k. at + k) (bit_count bytes start j)) (not_placed now n (at + j)))

-- a bit of the byte at k, read as an integer
pub placed_digit : (old now : List ℕ) (m at n p : ℕ) (bytes : List ℕ) (k j byte d : ℕ) → j < 8 → byte ≡ slice_index bytes k → d ≡ bit_and (byte / 2 ^ j) 1 → at + j ≡ p → n < length now → AddsPlaces old m at (bits_of bytes (8 * k) j) now n → AddsPlaces old m at (bits_of bytes (8 * k) (j + 1)) (set now n p) (n + d)
placed_digit old now m at n p bytes k j byte d l is says e room a =
    let same : cond (bit_of bytes (8 * k + j)) 1 0 ≡ d = ap (λ x. cond x 1 0) (bit_of_byte bytes k byte (8 * k + j) j l refl is) ∙ digit (bit_at byte j) (bit_at-lt byte j) ∙ sym (shr_and_one byte j) ∙ sym says in
    subst (λ i. AddsPlaces old m at (bits_of bytes (8 * k) (j + 1)) (set now n p) (n + i)) same (placed_bit old now m at n p (8 * k) j bytes (bit_of bytes (8 * k + j)) refl e room a)

-- eight bits need at most eight indices
pub room_for_digit : (old now : List ℕ) (m at n : ℕ) (bytes : List ℕ) (k j : ℕ) → j < 8 → m + 8 ≤ length old → AddsPlaces old m at (bits_of bytes (8 * k) j) now n → n < length now
room_for_digit old now m at n bytes k j l room a = omega (arith, a.counted, a.same, few_trues bytes (8 * k) j, room)

-- n bytes, and one more
bytes_more : (bytes : List ℕ) (first k : ℕ) → bits_of bytes (8 * first) (8 * k) ++ bits_of bytes (8 * (first + k)) 8 ≡ bits_of bytes (8 * first) (8 * (k + 1))
bytes_more bytes first k =
    let many : 8 * k + 8 ≡ 8 * (k + 1) = omega arith in
    sym (bits_joined bytes (8 * first) (8 * k) 8 (8 * (first + k)) (omega arith)) ∙ ap (bits_of bytes (8 * first)) many

pub placed_byte : (old now new : List ℕ) (m at n i next : ℕ) (bytes : List ℕ) (first k : ℕ) → at + 8 * k ≡ next → AddsPlaces old m at (bits_of bytes (8 * first) (8 * k)) now n → AddsPlaces now n next (bits_of bytes (8 * (first + k)) 8) new i → AddsPlaces old m at (bits_of bytes (8 * first) (8 * (k + 1))) new i
placed_byte old now new m at n i next bytes first k e a b =
    subst (λ xs. AddsPlaces old m at xs new i) (bytes_more bytes first k)
    (placed_joined old now new m n i at next (bits_of bytes (8 * first) (8 * k)) (bits_of bytes (8 * (first + k)) 8) a (ap (λ q. at + q) (bit_count bytes (8 * first) (8 * k)) ∙ e) b)

nothing : (now : List ℕ) (n p : ℕ) → AddsPlaces now n p (eight_of 0) now n
nothing now n p =
    let none : count_by (λ b. b) (eight_of 0) ≡ 0 = refl in
    record { placed = sym (append-nil (take n now)); counted = omega (arith, none); same = refl }

-- a byte without true bits
pub placed_zero : (old now : List ℕ) (m at n : ℕ) (bytes : List ℕ) (first k byte : ℕ) → byte ≡ slice_index bytes (first + k) → byte ≡ 0 → AddsPlaces old m at (bits_of bytes (8 * first) (8 * k)) now n → AddsPlaces old m at (bits_of bytes (8 * first) (8 * (k + 1))) now n
placed_zero old now m at n bytes first k byte is empty a =
    placed_byte old now now m at n n (at + 8 * k) bytes first k refl a
    (subst (λ xs. AddsPlaces now n (at + 8 * k) xs now n) (sym (eight_are bytes (first + k) 0 (sym empty ∙ is))) (nothing now n (at + 8 * k)))

-- there is room for the byte at k
pub room_for_byte : (old now : List ℕ) (m at n : ℕ) (bytes : List ℕ) (first k count : ℕ) → k < count → m + count_by (λ b. b) (bits_of bytes (8 * first) (8 * count)) ≤ length old → AddsPlaces old m at (bits_of bytes (8 * first) (8 * k)) now n → n + count_by (λ b. b) (bits_of bytes (8 * (first + k)) 8) ≤ length now
room_for_byte old now m at n bytes first k count l room a =
    let both : trues_in bytes (8 * first) (8 * (k + 1)) ≡ trues_in bytes (8 * first) (8 * k) + trues_in bytes (8 * (first + k)) 8 = ap (count_by (λ b. b)) (sym (bytes_more bytes first k)) ∙ sum_by-append (λ x. cond x 1 0) (bits_of bytes (8 * first) (8 * k)) (bits_of bytes (8 * (first + k)) 8) in
    omega (arith, both, few_in_front bytes (8 * first) (8 * (k + 1)) (8 * count) (omega arith), a.counted, a.same, room)

-- a bit read as an integer
pub one_digit : (n j : ℕ) → bit_and (n / 2 ^ j) 1 ≤ 1
one_digit n j = let small : bit_at n j < 2 = bit_at-lt n j in subst (λ d. d ≤ 1) (sym (shr_and_one n j)) (omega (arith, small))

pub ruleset bits_placed = (placed_none, room_for_bit, placed_yes, placed_no)

pub ruleset digits_placed = (placed_none, room_for_digit, placed_digit)

pub ruleset bytes_placed = (placed_none, room_for_byte, placed_byte, placed_zero)

-- a list of just the right length has nothing else in it
pub all_placed : (bytes : List ℕ) (start m at : ℕ) (none all : List ℕ) (n : ℕ) → at ≡ 0 → length none ≡ count_by (λ b. b) (bits_of bytes start m) → AddsPlaces none 0 at (bits_of bytes start m) all n → all ≡ positions_of (bits_of bytes start m)
all_placed bytes start m at none all n first room a =
    let full : length all ≤ n = omega (arith, a.counted, a.same, room) in
    sym (take_all n all full) ∙ a.placed ∙ ap (λ p. positions_from p (bits_of bytes start m)) first

-- there is room for the bits after the first ones
pub room_inside : (bytes : List ℕ) (start a m b end i : ℕ) (none before : List ℕ) (at : ℕ) → start ≤ a → a + m ≡ b → b ≤ end → length none ≡ count_by (λ x. x) (bits_of bytes start (end - start)) → AddsPlaces none 0 at (bits_of bytes start (a - start)) before i → i + count_by (λ x. x) (bits_of bytes a m) ≤ length before
room_inside bytes start a m b end i none before at l e r room p = omega (arith, three_counted bytes start a m b end l e r, p.counted, p.same, room)

pub room_behind : (bytes : List ℕ) (start a m b end i j : ℕ) (none before inside : List ℕ) (at next : ℕ) → start ≤ a → a + m ≡ b → b ≤ end → length none ≡ count_by (λ x. x) (bits_of bytes start (end - start)) → AddsPlaces none 0 at (bits_of bytes start (a - start)) before i → AddsPlaces before i next (bits_of bytes a m) inside j → j + count_by (λ x. x) (bits_of bytes b (end - b)) ≤ length inside
room_behind bytes start a m b end i j none before inside at next l e r room p q = omega (arith, three_counted bytes start a m b end l e r, p.counted, p.same, q.counted, q.same, room)

-- what three calls add, one after another, to a list of just the right length
pub placed_in_turn : (bytes : List ℕ) (start a m b end at : ℕ) (none before inside all : List ℕ) (i j n : ℕ) → start ≤ a → a + m ≡ b → b ≤ end → at ≡ 0 → length none ≡ count_by (λ x. x) (bits_of bytes start (end - start)) → AddsPlaces none 0 at (bits_of bytes start (a - start)) before i → AddsPlaces before i (a - start) (bits_of bytes a m) inside j → AddsPlaces inside j (b - start) (bits_of bytes b (end - b)) all n → all ≡ positions_of (bits_of bytes start (end - start))
placed_in_turn bytes start a m b end at none before inside all i j n l e r origin room first second third =
    let two : AddsPlaces none 0 at (bits_of bytes start (a - start) ++ bits_of bytes a m) inside j = placed_joined none before inside 0 i j at (a - start) (bits_of bytes start (a - start)) (bits_of bytes a m) first (omega (arith, bit_count bytes start (a - start), origin)) second in
    let many : at + length (bits_of bytes start (a - start) ++ bits_of bytes a m) ≡ b - start = omega (arith, length-append (bits_of bytes start (a - start)) (bits_of bytes a m), bit_count bytes start (a - start), bit_count bytes a m, origin) in
    let three : AddsPlaces none 0 at ((bits_of bytes start (a - start) ++ bits_of bytes a m) ++ bits_of bytes b (end - b)) all n = placed_joined none inside all 0 j n at (b - start) (bits_of bytes start (a - start) ++ bits_of bytes a m) (bits_of bytes b (end - b)) two many third in
    all_placed bytes start (end - start) at none all n origin room (subst (λ xs. AddsPlaces none 0 at xs all n) (three_parts bytes start a m b end l e r) three)

pub room_before : (bytes : List ℕ) (start a m b end : ℕ) (none : List ℕ) → start ≤ a → a + m ≡ b → b ≤ end → length none ≡ count_by (λ x. x) (bits_of bytes start (end - start)) → 0 + count_by (λ x. x) (bits_of bytes start (a - start)) ≤ length none
room_before bytes start a m b end none l e r room = omega (arith, three_counted bytes start a m b end l e r, room)

-- a vector whose items were overwritten, and are all of these now
pub lent : (n : ℕ) (new old all : List ℕ) → n ≡ length old → length new ≡ length old → new ≡ all → take n (new ++ drop (length new) old) ≡ all
lent n new old all e same is = take_at new (drop (length new) old) n (omega arith) ∙ is

pub ruleset all_lent = (lent)
