-- The rows of each layout of integers as indices.
use Rattle.std.proofs.Common.{◌≡◌, ◌<◌, ◌≤◌, ◌∙◌, ℕ, ℤ, pos, negsuc, Bool, true, false, cond, List, [], ◌∷◌, length, map, replicate, get_or, refl, sym, ap, subst, arith, inl, inr}
use Rattle.std.specs.Prelude.{◌≤ℤ◌, ◌<ℤ◌, unsigned_abs}
use Rattle.std.specs.List.{zip}
use Rattle.std.proofs.lemmas.Bool.{cases_lt}
use Rattle.std.proofs.lemmas.Int.{ints}
use Rattle.std.proofs.lemmas.List.{ext_get_or, get_or-map, get_or_past, get_or-replicate, length-map, length-replicate}
use Rattle.std.proofs.lemmas.Simd.{map-map}
use Rattle.std.proofs.lemmas.Slice.Zip.{length-zip, get_or-zip}
use Rattle.vortex_model.specs.LogicalType.{LogicalType, IntKind, u8, u16, u32, u64, i8, i16, i32, i64, integer_type}
use Rattle.vortex_model.specs.Content.{Content, null, boolean, integer, text, byte_string, tuple, tagged, scalar, Raw, content_of}
use Rattle.vortex_model.specs.Valid.{greatest_number, in_range, IsContent}
use Rattle.vortex_model.proofs.Tests.{range_so}
use Rattle.vortex_arrays_model.specs.Layout.{Layout, numbers, constant, dictionary, Valid, all_null, by_array, len_of, array_type_of, content_at, number_in, pick, rows_of, is_valid, IsCode, IsInteger, IsSound, HasLength}
use Rattle.vortex_arrays_model.specs.Parts.{AreWithin}
use Rattle.vortex_arrays_model.proofs.RowsLemmas.{row_at_position, row_count}
use Rattle.vortex_arrays_model.proofs.ValidRows.{rows_valid}
use Rattle.vortex_arrays_validity.specs.Places.{number_or, place_or, places_or, place_at, places_at, numbers_where}
use Rattle.vortex_arrays_validity.specs.Validities.{valid_rows}
use Rattle.vortex_arrays_validity.proofs.Rows.{bit_says, row_count as valid_count}

-- ---- lists of indices, row by row

pub place_count : (n : ℕ) (a : Layout) → length (places_or n a) ≡ len_of a
place_count n a = length-map (rows_of a) (place_or n) ∙ row_count a

pub place_read : (n : ℕ) (a : Layout) (i d : ℕ) → i < len_of a → get_or (places_or n a) i d ≡ place_or n (content_at a i)
place_read n a i d l =
    get_or-map (place_or n) (rows_of a) i null d (subst (λ m. i < m) (sym (row_count a)) l)
    ∙ ap (place_or n) (row_at_position a i null l)

pub places_by_each : (n : ℕ) (a : Layout) (xs : List ℕ) → length xs ≡ len_of a → ((i : ℕ) → i < len_of a → get_or xs i 0 ≡ place_or n (content_at a i)) → xs ≡ places_or n a
places_by_each n a xs many each = ext_get_or 0 xs (places_or n a) (many ∙ sym (place_count n a)) (λ i l.
    let within : i < len_of a = subst (λ m. i < m) many l in
    each i within ∙ sym (place_read n a i 0 within))

-- 0 for null, as in the layouts
pub number_named : (c : Content) → place_or 0 c ≡ number_in c
number_named null = refl
number_named (boolean b) = refl
number_named (integer (pos i)) = refl
number_named (integer (negsuc i)) = refl
number_named (text b) = refl
number_named (byte_string b) = refl
number_named (tuple cs) = refl
number_named (tagged t c) = refl
number_named (scalar k c) = refl

-- a code is null or an index
place_named : (n : ℕ) (c : Content) (p : ℕ) → IsCode n c → p ≡ place_or n c → p < n → c ≡ integer (pos p)
place_named n null p h e l = absurd (omega (arith, e))
place_named n (integer (pos i)) p h e l = ap (λ j. integer (pos j)) (sym e)
place_named n c p h e l = absurd h

no_place_named : (n : ℕ) (c : Content) (p : ℕ) → IsCode n c → p ≡ place_or n c → (p < n → ⊥) → c ≡ null
no_place_named n null p h e l = refl
no_place_named n (integer (pos i)) p h e l = absurd (l (subst (λ j. j < n) (sym e) h))
no_place_named n c p h e l = absurd h

-- ---- a 64-bit integer, or a negative one

-- an integer of any type is at most the greatest 64-bit integer
greatest_below : (i : IntKind) (z : ℤ) → z ≤ℤ greatest_number i → z ≤ℤ pos 18446744073709551615
greatest_below u8 z h = grind (arith, ints, h)
greatest_below u16 z h = grind (arith, ints, h)
greatest_below u32 z h = grind (arith, ints, h)
greatest_below u64 z h = h
greatest_below i8 z h = grind (arith, ints, h)
greatest_below i16 z h = grind (arith, ints, h)
greatest_below i32 z h = grind (arith, ints, h)
greatest_below i64 z h = grind (arith, ints, h)

pub below_word : (i : IntKind) (z : ℤ) → in_range i z ≡ true → z ≤ℤ pos 18446744073709551615
below_word i z h = greatest_below i z (let r = range_so i z h in r.to)

pub number_abs : (n : ℕ) (z : ℤ) → pos 0 ≤ℤ z → number_or n z ≡ unsigned_abs z
number_abs n (pos i) h = refl
number_abs n (negsuc i) h = grind (arith, ints, h)

pub number_below : (n : ℕ) (z : ℤ) → z <ℤ pos 0 → number_or n z ≡ n
number_below n (pos i) h = grind (arith, ints, h)
number_below n (negsuc i) h = refl

pub ruleset held = (below_word, number_abs, number_below)

-- ---- the first row

-- an integer of a type is at most the greatest 64-bit integer
in_word : (k : LogicalType) (z : ℤ) → IsInteger k → IsContent k (integer z) → z ≤ℤ pos 18446744073709551615
in_word (integer_type i m) z h v = greatest_below i z v.to
in_word k z h v = absurd h

pub first_in_word : (a : Layout) (z : ℤ) → IsSound a → IsInteger (array_type_of a) → 0 < len_of a → content_at a 0 ≡ integer z → z ≤ℤ pos 18446744073709551615
first_in_word a z s h l e = in_word (array_type_of a) z h (subst (IsContent (array_type_of a)) e (rows_valid a s 0 l))

-- ---- repeated

pub there : (i len place none : ℕ) → i < len → place ≡ get_or (replicate len place) i none
there i len place none l = sym (get_or-replicate len i place none l)

pub past : (i len place none : ℕ) → (i < len → ⊥) → none ≡ get_or (replicate len place) i none
past i len place none h = sym (get_or_past (replicate len place) i none (omega (arith, h, length-replicate len place)))

pub ruleset repeated = (there, past)

constant_rows : (n p : ℕ) (k : LogicalType) (r : Raw) (m : ℕ) → (0 < m → p ≡ place_or n (content_of r)) → replicate m p ≡ places_or n (constant k r m)
constant_rows n p k r m h = places_by_each n (constant k r m) (replicate m p) (length-replicate m p) (λ i l. get_or-replicate m i p 0 l ∙ h (omega arith))

pub constant_or : (a : Layout) (n p : ℕ) (k : LogicalType) (r : Raw) (m : ℕ) (xs : List ℕ) → constant k r m ≡ a → (0 < len_of a → p ≡ place_or n (content_at a 0)) → xs ≡ replicate m p → xs ≡ places_or n a
constant_or a n p k r m xs e h is = subst (λ b. (0 < len_of b → p ≡ place_or n (content_at b 0)) → xs ≡ places_or n b) e (λ g. is ∙ constant_rows n p k r m g) h

-- ---- rows at indices

-- a row as an index, and n where there is none
pub place_there : (n : ℕ) (a : Layout) (i : ℕ) → i < len_of a → place_at n (rows_of a) i ≡ place_or n (content_at a i)
place_there n a i l = ap (place_or n) (row_at_position a i null l)

pub place_past : (n : ℕ) (a : Layout) (i : ℕ) → len_of a ≤ i → place_at n (rows_of a) i ≡ n
place_past n a i l = ap (place_or n) (get_or_past (rows_of a) i null (omega (arith, l, row_count a)))

-- two lists of equal items at each index
alike : {X : Type 0} (f g : X → ℕ) (xs : List X) → ((x : X) → f x ≡ g x) → map f xs ≡ map g xs
alike f g [] h = refl
alike f g (x ∷ xs) h = (λ t. h x t ∷ alike f g xs h t)

constant_there : (n p : ℕ) (k : LogicalType) (r : Raw) (m i : ℕ) → (0 < m → p ≡ place_or n (content_of r)) → get_or (replicate m p) i n ≡ place_at n (rows_of (constant k r m)) i
constant_there n p k r m i h = elim (cases_lt i m) [
  | inl l ↦ get_or-replicate m i p n l ∙ h (omega arith) ∙ sym (place_there n (constant k r m) i l)
  | inr l ↦ get_or_past (replicate m p) i n (omega (arith, l, length-replicate m p)) ∙ sym (place_past n (constant k r m) i (omega (arith, l)))
]

pub constant_at : (a : Layout) (n p : ℕ) (k : LogicalType) (r : Raw) (m : ℕ) (is xs : List ℕ) → constant k r m ≡ a → (0 < len_of a → p ≡ place_or n (content_at a 0)) → xs ≡ map (λ i. get_or (replicate m p) i n) is → xs ≡ places_at n a is
constant_at a n p k r m is xs e h same = subst (λ b. (0 < len_of b → p ≡ place_or n (content_at b 0)) → xs ≡ places_at n b is) e (λ g. same ∙ alike (λ i. get_or (replicate m p) i n) (place_at n (rows_of (constant k r m))) is (λ i. constant_there n p k r m i g)) h

-- ---- dictionaries

-- a code is the index of a value, whose row is read
by_code : (n : ℕ) (v : Layout) (c : Content) → IsCode (len_of v) c → place_at n (rows_of v) (place_or (len_of v) c) ≡ place_or n (pick c (λ j. content_at v j))
by_code n v null h = place_past n v (len_of v) (omega arith)
by_code n v (integer (pos i)) h = place_there n v i h
by_code n v c h = absurd h

code_there : (n : ℕ) (c v : Layout) (f : Bool) (i : ℕ) → IsSound (dictionary c v f) → place_at n (rows_of v) (place_at (len_of v) (rows_of c) i) ≡ place_at n (rows_of (dictionary c v f)) i
code_there n c v f i s = elim (cases_lt i (len_of c)) [
  | inl l ↦ ap (place_at n (rows_of v)) (place_there (len_of v) c i l) ∙ by_code n v (content_at c i) (s.3 i l) ∙ sym (place_there n (dictionary c v f) i l)
  | inr l ↦ ap (place_at n (rows_of v)) (place_past (len_of v) c i (omega (arith, l))) ∙ place_past n v (len_of v) (omega arith) ∙ sym (place_past n (dictionary c v f) i (omega (arith, l)))
]

pub dictionary_or : (a : Layout) (n : ℕ) (c v : Layout) (f : Bool) (is xs : List ℕ) → dictionary c v f ≡ a → IsSound a → is ≡ places_or (len_of v) c → xs ≡ places_at n v is → xs ≡ places_or n a
dictionary_or a n c v f is xs e s named same = subst (λ b. IsSound b → xs ≡ places_or n b) e (λ t.
    same ∙ ap (places_at n v) named ∙ places_by_each n (dictionary c v f) (places_at n v (places_or (len_of v) c))
    (length-map (places_or (len_of v) c) (place_at n (rows_of v)) ∙ place_count (len_of v) c)
    (λ i l. get_or-map (place_at n (rows_of v)) (places_or (len_of v) c) i 0 0 (subst (λ m. i < m) (sym (place_count (len_of v) c)) l)
    ∙ ap (place_at n (rows_of v)) (place_read (len_of v) c i 0 l) ∙ by_code n v (content_at c i) (t.3 i l))) s

pub dictionary_at : (a : Layout) (n : ℕ) (c v : Layout) (f : Bool) (is named xs : List ℕ) → dictionary c v f ≡ a → IsSound a → named ≡ places_at (len_of v) c is → xs ≡ places_at n v named → xs ≡ places_at n a is
dictionary_at a n c v f is named xs e s through same = subst (λ b. IsSound b → xs ≡ places_at n b is) e (λ t.
    same ∙ ap (places_at n v) through ∙ map-map (place_at n (rows_of v)) (place_at (len_of v) (rows_of c)) is
    ∙ alike (λ i. place_at n (rows_of v) (place_at (len_of v) (rows_of c) i)) (place_at n (rows_of (dictionary c v f))) is (λ i. code_there n c v f i t)) s

-- ---- integers

-- a row as an integer or null
row_or : (n : ℕ) (b : Bool) (z : ℤ) → place_or n (cond b (integer z) null) ≡ cond b (number_or n z) n
row_or n true z = refl
row_or n false z = refl

numbers_by_each : (n : ℕ) (k : IntKind) (zs : List ℤ) (v : Valid) (xs : List ℕ) → length xs ≡ length zs → ((i : ℕ) → i < length zs → get_or xs i 0 ≡ cond (is_valid v i) (number_or n (get_or zs i (pos 0))) n) → xs ≡ places_or n (numbers k zs v)
numbers_by_each n k zs v xs many each = places_by_each n (numbers k zs v) xs many (λ i l. each i l ∙ sym (row_or n (is_valid v i) (get_or zs i (pos 0))))

pub all_numbers : (n : ℕ) (k : IntKind) (zs : List ℤ) (v : Valid) (xs : List ℕ) → ((i : ℕ) → is_valid v i ≡ true) → xs ≡ map (number_or n) zs → xs ≡ places_or n (numbers k zs v)
all_numbers n k zs v xs all e = numbers_by_each n k zs v xs (ap length e ∙ length-map zs (number_or n)) (λ i l.
    ap (λ ys. get_or ys i 0) e ∙ get_or-map (number_or n) zs i (pos 0) 0 l ∙ ap (λ b. cond b (number_or n (get_or zs i (pos 0))) n) (sym (all i)))

pub no_numbers : (n : ℕ) (k : IntKind) (zs : List ℤ) (xs : List ℕ) → xs ≡ replicate (length zs) n → xs ≡ places_or n (numbers k zs all_null)
no_numbers n k zs xs e = numbers_by_each n k zs all_null xs (ap length e ∙ length-replicate (length zs) n) (λ i l. ap (λ ys. get_or ys i 0) e ∙ get_or-replicate (length zs) i n 0 l)

-- bits of rows by an array
bits_many : (a : Layout) (n : ℕ) (bits : List Bool) → HasLength (by_array a) n → bits ≡ valid_rows (by_array a) (len_of a) → length bits ≡ n
bits_many a n bits h e = ap length e ∙ valid_count (by_array a) (len_of a) ∙ h.1

bits_say : (a : Layout) (n : ℕ) (bits : List Bool) (i : ℕ) → HasLength (by_array a) n → bits ≡ valid_rows (by_array a) (len_of a) → i < n → get_or bits i false ≡ is_valid (by_array a) i
bits_say a n bits i h e l = bit_says (by_array a) bits (len_of a) i e (subst (λ m. i < m) (sym h.1) l)

pub some_numbers : (n : ℕ) (k : IntKind) (zs : List ℤ) (a : Layout) (bits : List Bool) (xs : List ℕ) → HasLength (by_array a) (length zs) → bits ≡ valid_rows (by_array a) (len_of a) → xs ≡ numbers_where n zs bits → xs ≡ places_or n (numbers k zs (by_array a))
some_numbers n k zs a bits xs h is e =
    let f : ℤ × Bool → ℕ = λ p. cond p.1 (number_or n p.0) n in
    let same : length bits ≡ length zs = bits_many a (length zs) bits h is in
    let count : length (zip zs bits) ≡ length zs = length-zip zs bits ∙ omega (arith, same) in
    numbers_by_each n k zs (by_array a) xs (ap length e ∙ length-map (zip zs bits) f ∙ count) (λ i l.
    ap (λ ys. get_or ys i 0) e ∙ get_or-map f (zip zs bits) i (pos 0, false) 0 (subst (λ m. i < m) (sym count) l)
    ∙ ap f (get_or-zip zs bits i (pos 0, false) l (subst (λ m. i < m) (sym same) l))
    ∙ ap (λ b. cond b (number_or n (get_or zs i (pos 0))) n) (bits_say a (length zs) bits i h is l))

-- the integers of a type and the rows
pub zip_numbers : {X : Type 0} (n : ℕ) (number : X → ℤ) (xs : List X) (rows : List Bool) → map (λ p. cond p.1 (number_or n (number p.0)) n) (zip xs rows) ≡ numbers_where n (map number xs) rows
zip_numbers n number [] rows = refl
zip_numbers n number (x ∷ xs) [] = refl
zip_numbers n number (x ∷ xs) (b ∷ rows) = (λ t. cond b (number_or n (number x)) n ∷ zip_numbers n number xs rows t)

-- ---- integers at indices

number_there : (n : ℕ) (zs : List ℤ) (i : ℕ) → i < length zs → place_at n (map integer zs) i ≡ number_or n (get_or zs i (pos 0))
number_there n zs i l = ap (place_or n) (get_or-map integer zs i (pos 0) null l)

number_past : (n : ℕ) (zs : List ℤ) (i : ℕ) → length zs ≤ i → place_at n (map integer zs) i ≡ n
number_past n zs i l = ap (place_or n) (get_or_past (map integer zs) i null (omega (arith, l, length-map zs integer)))

pub item_there : {X : Type 0} (n : ℕ) (number : X → ℤ) (xs : List X) (i p : ℕ) (x : X) → i < length xs → x ≡ get_or xs i x → p ≡ number_or n (number x) → p ≡ place_at n (map integer (map number xs)) i
item_there n number xs i p x l at is =
    is ∙ ap (λ y. number_or n (number y)) at ∙ ap (number_or n) (sym (get_or-map number xs i x (pos 0) l))
    ∙ sym (number_there n (map number xs) i (subst (λ m. i < m) (sym (length-map xs number)) l))

pub item_past : {X : Type 0} (n : ℕ) (number : X → ℤ) (xs : List X) (i : ℕ) → (i < length xs → ⊥) → n ≡ place_at n (map integer (map number xs)) i
item_past n number xs i h = sym (number_past n (map number xs) i (omega (arith, h, length-map xs number)))

valid_there : (n : ℕ) (k : IntKind) (zs : List ℤ) (v : Valid) (i : ℕ) → ((j : ℕ) → is_valid v j ≡ true) → place_at n (map integer zs) i ≡ place_at n (rows_of (numbers k zs v)) i
valid_there n k zs v i all = elim (cases_lt i (length zs)) [
  | inl l ↦ number_there n zs i l ∙ ap (λ b. cond b (number_or n (get_or zs i (pos 0))) n) (sym (all i)) ∙ sym (row_or n (is_valid v i) (get_or zs i (pos 0))) ∙ sym (place_there n (numbers k zs v) i l)
  | inr l ↦ number_past n zs i (omega (arith, l)) ∙ sym (place_past n (numbers k zs v) i (omega (arith, l)))
]

pub all_numbers_at : (n : ℕ) (k : IntKind) (zs : List ℤ) (v : Valid) (is xs : List ℕ) → ((i : ℕ) → is_valid v i ≡ true) → xs ≡ map (place_at n (map integer zs)) is → xs ≡ places_at n (numbers k zs v) is
all_numbers_at n k zs v is xs all e = e ∙ alike (place_at n (map integer zs)) (place_at n (rows_of (numbers k zs v))) is (λ i. valid_there n k zs v i all)

null_there : (n : ℕ) (k : IntKind) (zs : List ℤ) (i : ℕ) → n ≡ place_at n (rows_of (numbers k zs all_null)) i
null_there n k zs i = elim (cases_lt i (length zs)) [
  | inl l ↦ sym (place_there n (numbers k zs all_null) i l)
  | inr l ↦ sym (place_past n (numbers k zs all_null) i (omega (arith, l)))
]

nulls_there : (n : ℕ) (k : IntKind) (zs : List ℤ) (is : List ℕ) → replicate (length is) n ≡ places_at n (numbers k zs all_null) is
nulls_there n k zs [] = refl
nulls_there n k zs (i ∷ is) = (λ t. null_there n k zs i t ∷ nulls_there n k zs is t)

pub no_numbers_at : (n : ℕ) (k : IntKind) (zs : List ℤ) (is xs : List ℕ) → xs ≡ replicate (length is) n → xs ≡ places_at n (numbers k zs all_null) is
no_numbers_at n k zs is xs e = e ∙ nulls_there n k zs is

-- the index of a row that is not null
by_bit : (n : ℕ) (k : IntKind) (zs : List ℤ) (a : Layout) (i : ℕ) (b : Bool) → i < length zs → b ≡ is_valid (by_array a) i → place_at n (map integer zs) (cond b i (length zs)) ≡ place_at n (rows_of (numbers k zs (by_array a))) i
by_bit n k zs a i true l e = number_there n zs i l ∙ ap (λ b. cond b (number_or n (get_or zs i (pos 0))) n) e ∙ sym (row_or n (is_valid (by_array a) i) (get_or zs i (pos 0))) ∙ sym (place_there n (numbers k zs (by_array a)) i l)
by_bit n k zs a i false l e = number_past n zs (length zs) (omega arith) ∙ ap (λ b. cond b (number_or n (get_or zs i (pos 0))) n) e ∙ sym (row_or n (is_valid (by_array a) i) (get_or zs i (pos 0))) ∙ sym (place_there n (numbers k zs (by_array a)) i l)

set_there : (n : ℕ) (k : IntKind) (zs : List ℤ) (a : Layout) (bits : List Bool) (i : ℕ) → HasLength (by_array a) (length zs) → bits ≡ valid_rows (by_array a) (len_of a) → place_at n (map integer zs) (cond (get_or bits i false) i (length bits)) ≡ place_at n (rows_of (numbers k zs (by_array a))) i
set_there n k zs a bits i h is =
    let many : length bits ≡ length zs = bits_many a (length zs) bits h is in
    ap (λ m. place_at n (map integer zs) (cond (get_or bits i false) i m)) many ∙ elim (cases_lt i (length zs)) [
      | inl l ↦ by_bit n k zs a i (get_or bits i false) l (bits_say a (length zs) bits i h is l)
      | inr l ↦ ap (λ b. place_at n (map integer zs) (cond b i (length zs))) (get_or_past bits i false (omega (arith, l, many)))
          ∙ number_past n zs (length zs) (omega arith) ∙ sym (place_past n (numbers k zs (by_array a)) i (omega (arith, l)))
    ]

pub some_numbers_at : (n : ℕ) (k : IntKind) (zs : List ℤ) (a : Layout) (bits : List Bool) (is valid xs : List ℕ) → HasLength (by_array a) (length zs) → bits ≡ valid_rows (by_array a) (len_of a) → valid ≡ map (λ i. cond (get_or bits i false) i (length bits)) is → xs ≡ map (place_at n (map integer zs)) valid → xs ≡ places_at n (numbers k zs (by_array a)) is
some_numbers_at n k zs a bits is valid xs h b set e =
    e ∙ ap (map (place_at n (map integer zs))) set
    ∙ map-map (place_at n (map integer zs)) (λ i. cond (get_or bits i false) i (length bits)) is
    ∙ alike (λ i. place_at n (map integer zs) (cond (get_or bits i false) i (length bits))) (place_at n (rows_of (numbers k zs (by_array a)))) is (λ i. set_there n k zs a bits i h b)

-- an index past the bits has none
pub no_bit : (bits : List Bool) (i : ℕ) → (i < length bits → ⊥) → get_or bits i false ≡ false
no_bit bits i h = get_or_past bits i false (omega (arith, h))

pub ruleset unset = (no_bit)

pub ruleset first = (first_in_word, number_abs, number_below)

-- ---- a row of codes

place_of_row : (a : Layout) (n : ℕ) (xs : List ℕ) (k p : ℕ) → xs ≡ places_or n a → k < length xs → p ≡ get_or xs k p → p ≡ place_or n (content_at a k)
place_of_row a n xs k p e l at = at ∙ ap (λ ys. get_or ys k p) e ∙ place_read n a k p (subst (λ m. k < m) (ap length e ∙ place_count n a) l)

pub row_named : (a : Layout) (n : ℕ) (xs : List ℕ) (k p : ℕ) → xs ≡ places_or n a → AreWithin a n → k < length xs → p ≡ get_or xs k p → p < n → content_at a k ≡ integer (pos p)
row_named a n xs k p e h l at small = place_named n (content_at a k) p (h k (subst (λ m. k < m) (ap length e ∙ place_count n a) l)) (place_of_row a n xs k p e l at) small

pub row_null : (a : Layout) (n : ℕ) (xs : List ℕ) (k p : ℕ) → xs ≡ places_or n a → AreWithin a n → k < length xs → p ≡ get_or xs k p → (p < n → ⊥) → content_at a k ≡ null
row_null a n xs k p e h l at large = no_place_named n (content_at a k) p (h k (subst (λ m. k < m) (ap length e ∙ place_count n a) l)) (place_of_row a n xs k p e l at) large

pub ruleset rows = (row_named, row_null)
