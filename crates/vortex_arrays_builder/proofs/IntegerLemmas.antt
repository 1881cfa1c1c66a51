-- Integers in bytes that are end to end.
use Rattle.std.proofs.Common.{◌≡◌, ◌<◌, ◌≤◌, ◌+◌, ◌*◌, ◌/◌, ℕ, zero, suc, ℤ, pos, Bool, true, false, cond, IsTrue, List, [], ◌∷◌, ◌++◌, length, map, take, drop, set, get_or, inl, inr, refl, sym, ap, subst, ◌∙◌, arith}
use Rattle.std.proofs.lemmas.Bool.{cases_eq}
use Rattle.std.specs.List.{count_by}
use Rattle.std.proofs.lemmas.List.{map-append, get_or_push, get_or_append_left, length_push, length-set, take_all, take_more_set}
use Rattle.std.proofs.lemmas.List.Sums.{count_by_more_yes, count_by_more_no}
use Rattle.std.proofs.lemmas.Nat.{mul-le}
use Rattle.std.proofs.Math.Nat.{suc-mul, div-eq_of_eq-mul_left}
use Rattle.vortex_model.specs.LogicalType.{IntKind, u8, u16, u32, u64, i8, i16, i32, i64}
use Rattle.vortex_dtype_ptype.specs.Numbers.{NumberKind, integral, floating, is_integral, HasByteWidth}
use Rattle.vortex_dtype_native.specs.NativeBytes.{AreBytesOf}
use Rattle.vortex_dtype_native.proofs.Encoded.{width_u8, width_u16, width_u32, width_u64, width_i8, width_i16, width_i32, width_i64}
use Rattle.vortex_arrays_view.specs.declared.error.ArrayError.{ArrayError}
use Rattle.vortex_arrays_view.specs.declared.error.ArrayError.TheVariants as error
use Rattle.vortex_arrays_model.specs.Layout.{Layout, bools, numbers, len_of, Valid, required, all_valid, all_null, by_array, is_valid, HasLength}
use Rattle.vortex_arrays_core.specs.Faults.{IsValidityFault}
use Rattle.vortex_arrays_builder.specs.Integers.{valid_before, HoldIntegers, StandInBytes, IsOfBytes, IsTypeFault, IsBytesFault, IsValueBytesFault}

-- ---- the number of rows that are not null

pub one_there : (v : Valid) (i : ℕ) → is_valid v i ≡ true → valid_before v (i + 1) ≡ valid_before v i + 1
one_there v i e = ap (valid_before v) (let s : i + 1 ≡ suc i = omega arith in s) ∙ ap (λ b. cond b (suc (valid_before v i)) (valid_before v i)) e ∙ (let s : suc (valid_before v i) ≡ valid_before v i + 1 = omega arith in s)

pub one_missing : (v : Valid) (i : ℕ) → is_valid v i ≡ false → valid_before v (i + 1) ≡ valid_before v i
one_missing v i e = ap (valid_before v) (let s : i + 1 ≡ suc i = omega arith in s) ∙ ap (λ b. cond b (suc (valid_before v i)) (valid_before v i)) e

pub ruleset counted = (one_there, one_missing)

-- no row is null without null
pub each_there : (n : ℕ) → valid_before required n ≡ n
each_there zero = refl
each_there (suc n) = ap suc (each_there n)

pub all_there : (n : ℕ) → n ≡ valid_before all_valid n
all_there zero = refl
all_there (suc n) = ap suc (all_there n)

pub none_there : (n : ℕ) → 0 ≡ valid_before all_null n
none_there zero = refl
none_there (suc n) = none_there n

pub each_counted : (n : ℕ) → n ≡ valid_before required n
each_counted n = sym (each_there n)

pub as_many_there : (a : Layout) (n m : ℕ) → HasLength (by_array a) n → m ≡ valid_before (by_array a) (len_of a) → m ≡ valid_before (by_array a) n
as_many_there a n m h e = e ∙ ap (valid_before (by_array a)) h.1

pub ruleset all_counted = (all_there, none_there, each_counted, as_many_there)

one_bit : (bs : List Bool) (n m : ℕ) (b : Bool) → n < length bs → get_or bs n false ≡ b → m ≡ count_by (λ c. c) (take n bs) → cond b (suc m) m ≡ count_by (λ c. c) (take (n + 1) bs)
one_bit bs n m true l e h = (let s : suc m ≡ m + 1 = omega arith in s) ∙ ap (λ k. k + 1) h ∙ sym (count_by_more_yes (λ c. c) bs n false l e)
one_bit bs n m false l e h = h ∙ sym (count_by_more_no (λ c. c) bs n false l e)

bits_before : (bs : List Bool) (n : ℕ) → n ≤ length bs → valid_before (by_array (bools bs required)) n ≡ count_by (λ c. c) (take n bs)
bits_before bs zero l = refl
bits_before bs (suc n) l =
    one_bit bs n (valid_before (by_array (bools bs required)) n) (get_or bs n false) (omega (arith, l)) refl (bits_before bs n (omega (arith, l)))
    ∙ ap (λ k. count_by (λ c. c) (take k bs)) (let s : n + 1 ≡ suc n = omega arith in s)

pub bits_counted : (a : Layout) (bs : List Bool) (m : ℕ) → bools bs required ≡ a → m ≡ count_by (λ c. c) bs → m ≡ valid_before (by_array a) (len_of a)
bits_counted a bs m e h =
    subst (λ l. m ≡ valid_before (by_array l) (len_of l)) e (h ∙ sym (bits_before bs (length bs) (omega arith) ∙ ap (count_by (λ c. c)) (take_all (length bs) bs (omega arith))))

grows : (b : Bool) (n : ℕ) → n ≤ cond b (suc n) n
grows true n = omega arith
grows false n = omega arith

before_le : (v : Valid) (i j : ℕ) → i ≤ j → valid_before v i ≤ valid_before v j
before_le v i zero h = subst (λ k. valid_before v k ≤ valid_before v zero) (let e : zero ≡ i = omega arith in e) (omega arith)
before_le v i (suc j) h = elim (cases_eq i (suc j)) [
  | inl same ↦ subst (λ k. valid_before v k ≤ valid_before v (suc j)) (sym same) (omega arith)
  | inr other ↦
      let before : valid_before v i ≤ valid_before v j = before_le v i j (omega (arith, h, other)) in
      let step : valid_before v j ≤ valid_before v (suc j) = grows (is_valid v j) (valid_before v j) in
      omega (arith, before, step)
]

-- the bytes of one more row are within all bytes
pub room : (v : Valid) (i n w start len : ℕ) → is_valid v i ≡ true → i < n → start ≡ valid_before v i * w → len ≡ valid_before v n * w → start + w ≤ len
room v i n w start len t l s e =
    let more : valid_before v (i + 1) ≤ valid_before v n = before_le v (i + 1) n (omega (arith, l)) in
    let one : valid_before v (i + 1) ≡ valid_before v i + 1 = one_there v i t in
    let prod : suc (valid_before v i) * w ≤ valid_before v n * w = mul-le (suc (valid_before v i)) w (valid_before v n) w (omega (arith, more, one)) (omega arith) in
    let split : suc (valid_before v i) * w ≡ valid_before v i * w + w = suc-mul (valid_before v i) w in
    omega (arith, prod, split, s, e)

-- ---- integers that are read one by one

pub record AreRead (k : IntKind) (w : ℕ) (v : Valid) (bytes : List ℕ) (zs : List ℤ) (n start : ℕ) : Type 0 where
  pub many : length zs ≡ n
  pub start_is : start ≡ valid_before v n * w
  pub stand : StandInBytes k w v bytes zs

pub none_read : (k : IntKind) (w : ℕ) (v : Valid) (bytes : List ℕ) → AreRead k w v bytes [] 0 0
none_read k w v bytes = record {
  many = refl;
  start_is = omega arith;
  stand = record { valid = λ n l t. absurd (omega arith); null = λ n l t. absurd (omega arith) };
}

next_start : (v : Valid) (n w start next : ℕ) (b : Bool) → b ≡ is_valid v n → start ≡ valid_before v n * w → next ≡ cond b (start + w) start → next ≡ valid_before v (n + 1) * w
next_start v n w start next true e s f =
    let split : suc (valid_before v n) * w ≡ valid_before v n * w + w = suc-mul (valid_before v n) w in
    let one : valid_before v (n + 1) ≡ suc (valid_before v n) = one_there v n (sym e) ∙ (let x : valid_before v n + 1 ≡ suc (valid_before v n) = omega arith in x) in
    f ∙ ap (λ x. x + w) s ∙ sym split ∙ ap (λ x. x * w) (sym one)
next_start v n w start next false e s f = f ∙ s ∙ ap (λ x. x * w) (sym (one_missing v n (sym e)))

module _ (k : IntKind) (w : ℕ) (v : Valid) (bytes : List ℕ) (zs : List ℤ) (n start next : ℕ) (z : ℤ) (b : Bool) (h : AreRead k w v bytes zs n start) (valid_is : b ≡ is_valid v n) (item : b ≡ true → AreBytesOf k z (take w (drop start bytes))) (null : b ≡ false → z ≡ pos 0) (moved : next ≡ cond b (start + w) start) where
  last_at : (i : ℕ) → i ≡ n → get_or (zs ++ z ∷ []) i (pos 0) ≡ z
  last_at i e = get_or_push zs z (pos 0) i (h.many ∙ sym e)

  before_at : (i : ℕ) → i < length (zs ++ z ∷ []) → (i ≡ n → ⊥) → (i < length zs) × (get_or (zs ++ z ∷ []) i (pos 0) ≡ get_or zs i (pos 0))
  before_at i l other =
      let p = length_push zs z in let m = h.many in
      let within : i < length zs = omega (arith, l, p, m, other) in
      (within, get_or_append_left zs (z ∷ []) (pos 0) i within)

  pub read_more : AreRead k w v bytes (zs ++ z ∷ []) (n + 1) next
  read_more = record {
    many = length_push zs z ∙ ap (λ x. x + 1) h.many;
    start_is = next_start v n w start next b valid_is h.start_is moved;
    stand = record {
      valid = λ i l t. elim (cases_eq i n) [
        | inl same ↦
            let there : b ≡ true = valid_is ∙ ap (is_valid v) (sym same) ∙ t in
            subst (λ y. AreBytesOf k y (take w (drop (valid_before v i * w) bytes))) (sym (last_at i same))
            (subst (λ s. AreBytesOf k z (take w (drop s bytes))) (h.start_is ∙ ap (λ j. valid_before v j * w) (sym same)) (item there))
        | inr other ↦
            let p = before_at i l other in
            subst (λ y. AreBytesOf k y (take w (drop (valid_before v i * w) bytes))) (sym p.1) (h.stand.valid i p.0 t)
      ];
      null = λ i l t. elim (cases_eq i n) [
        | inl same ↦ last_at i same ∙ null (valid_is ∙ ap (is_valid v) (sym same) ∙ t)
        | inr other ↦ let p = before_at i l other in p.1 ∙ h.stand.null i p.0 t
      ];
    };
  }

pub pushed : {X : Type 0} (number : X → ℤ) (ys zs : List X) (y : X) → zs ≡ ys ++ y ∷ [] → map number zs ≡ map number ys ++ number y ∷ []
pushed number ys zs y e = ap (map number) e ∙ map-append number ys (y ∷ [])

-- the first integers are read, at their indices
pub record PlacesAreRead {X : Type 0} (k : IntKind) (number : X → ℤ) (w : ℕ) (v : Valid) (bytes : List ℕ) (xs : List X) (all n start : ℕ) : Type 0 where
  pub room : length xs ≡ all
  pub read : AreRead k w v bytes (map number (take n xs)) n start

pub no_place_read : {X : Type 0} (k : IntKind) (number : X → ℤ) (w : ℕ) (v : Valid) (bytes : List ℕ) (xs : List X) (all : ℕ) → length xs ≡ all → PlacesAreRead k number w v bytes xs all 0 0
no_place_read k number w v bytes xs all e = record { room = e; read = none_read k w v bytes }

module _ {X : Type 0} (k : IntKind) (number : X → ℤ) (w : ℕ) (v : Valid) (bytes : List ℕ) (xs ys : List X) (all n start next : ℕ) (x : X) (b : Bool) (h : PlacesAreRead k number w v bytes xs all n start) where
  pub place_read : ys ≡ set xs n x → n < all → b ≡ is_valid v n → (b ≡ true → AreBytesOf k (number x) (take w (drop start bytes))) → (b ≡ false → number x ≡ pos 0) → next ≡ cond b (start + w) start → PlacesAreRead k number w v bytes ys all (n + 1) next
  place_read e l valid_is item null moved = record {
    room = ap length e ∙ length-set xs n x ∙ h.room;
    read = subst (λ zs. AreRead k w v bytes zs (n + 1) next)
        (sym (pushed number (take n xs) (take (n + 1) ys) x (ap (take (n + 1)) e ∙ take_more_set xs n x (subst (λ m. n < m) (sym h.room) l))))
        (read_more k w v bytes (map number (take n xs)) n start next (number x) b h.read valid_is item null moved);
  }

pub places_read : {X : Type 0} (k : IntKind) (number : X → ℤ) (w : ℕ) (v : Valid) (bytes : List ℕ) (xs : List X) (all n start : ℕ) → PlacesAreRead k number w v bytes xs all n start → all ≤ n → StandInBytes k w v bytes (map number xs)
places_read k number w v bytes xs all n start h done = subst (λ zs. StandInBytes k w v bytes (map number zs)) (take_all n xs (omega (arith, done, h.room))) h.read.stand

-- of rows without null
valid_alike : (v : Valid) → ((i : ℕ) → IsTrue (is_valid v i)) → (n : ℕ) → valid_before v n ≡ n
valid_alike v h zero = refl
valid_alike v h (suc n) = ap (λ b. cond b (suc (valid_before v n)) (valid_before v n)) (h n) ∙ ap suc (valid_alike v h n)

pub stand_alike : (k : IntKind) (w : ℕ) (bytes : List ℕ) (zs : List ℤ) → StandInBytes k w required bytes zs → (v : Valid) → ((i : ℕ) → IsTrue (is_valid v i)) → StandInBytes k w v bytes zs
stand_alike k w bytes zs h v all = record {
  valid = λ n l t. subst (λ m. AreBytesOf k (get_or zs n (pos 0)) (take w (drop (m * w) bytes))) (each_there n ∙ sym (valid_alike v all n)) (h.valid n l refl);
  null = λ n l t. absurd (cc (sym t ∙ all n));
}

-- ---- the width of an integer

width_is : (k : IntKind) → (w : ℕ) × ((x : ℕ) → HasByteWidth (integral k) x → (x ≡ w) × (0 < x))
width_is u8 = (1, (λ x h. let e = width_u8 x h in (omega (arith, e), omega (arith, e))))
width_is u16 = (2, (λ x h. let e = width_u16 x h in (omega (arith, e), omega (arith, e))))
width_is u32 = (4, (λ x h. let e = width_u32 x h in (omega (arith, e), omega (arith, e))))
width_is u64 = (8, (λ x h. let e = width_u64 x h in (omega (arith, e), omega (arith, e))))
width_is i8 = (1, (λ x h. let e = width_i8 x h in (omega (arith, e), omega (arith, e))))
width_is i16 = (2, (λ x h. let e = width_i16 x h in (omega (arith, e), omega (arith, e))))
width_is i32 = (4, (λ x h. let e = width_i32 x h in (omega (arith, e), omega (arith, e))))
width_is i64 = (8, (λ x h. let e = width_i64 x h in (omega (arith, e), omega (arith, e))))

pub same_width : (k : IntKind) (w x : ℕ) → HasByteWidth (integral k) w → HasByteWidth (integral k) x → x ≡ w
same_width k w x h g = let p = width_is k in let a = p.1 w h in let b = p.1 x g in b.0 ∙ sym a.0

pub some_bytes : (k : NumberKind) (w : ℕ) → is_integral k ≡ true → HasByteWidth k w → 0 < w
some_bytes (integral k) w e h = let p = width_is k in let a = p.1 w h in a.1
some_bytes (floating f) w e h = absurd (cc (e))

pub any_width : (k : IntKind) (w : ℕ) (v : Valid) (bytes : List ℕ) (zs : List ℤ) → HasByteWidth (integral k) w → StandInBytes k w v bytes zs → (x : ℕ) → HasByteWidth (integral k) x → StandInBytes k x v bytes zs
any_width k w v bytes zs h s x g = subst (λ y. StandInBytes k y v bytes zs) (sym (same_width k w x h g)) s

pub ruleset one_width = (any_width)

pub whole_any : (k : NumberKind) (w n : ℕ) (bytes : List ℕ) → is_integral k ≡ true → HasByteWidth k w → length bytes ≡ n * w → HoldIntegers k bytes n
whole_any (integral k) w n bytes i h e = λ x g. e ∙ ap (λ y. n * y) (sym (same_width k w x h g))
whole_any (floating f) w n bytes i h e = absurd (cc (i))

-- ---- errors

type_anywhere : (v : Valid) (n : ℕ) → IsValidityFault error.WrongType v n → IsValidityFault error.WrongType v 0
type_anywhere (by_array a) n h = h
type_anywhere required n h = absurd h
type_anywhere all_valid n h = absurd h
type_anywhere all_null n h = absurd h

right_type : (v : Valid) (n : ℕ) → IsValidityFault error.LengthMismatch v n → IsValidityFault error.WrongType v 0 → ⊥
right_type (by_array a) n h w = w h.0
right_type required n h w = h
right_type all_valid n h w = h
right_type all_null n h w = h

fits_type : (v : Valid) (n : ℕ) → HasLength v n → IsValidityFault error.WrongType v 0 → ⊥
fits_type (by_array a) n h w = w h.2
fits_type required n h w = w
fits_type all_valid n h w = w
fits_type all_null n h w = w

other_length : (v : Valid) (n : ℕ) → IsValidityFault error.LengthMismatch v n → HasLength v n → ⊥
other_length (by_array a) n h f = h.1 f.1
other_length required n h f = h
other_length all_valid n h f = h
other_length all_null n h f = h

no_type_fault : (k : NumberKind) (v : Valid) → is_integral k ≡ true → (IsValidityFault error.WrongType v 0 → ⊥) → IsTypeFault k v → ⊥
no_type_fault k v i n (inl a) = a i
no_type_fault k v i n (inr b) = n b

not_integral : (k : NumberKind) → is_integral k ≡ false → IsTrue (is_integral k) → ⊥
not_integral k e t = cc (sym e ∙ t)

-- as many integers as the bytes have
count_is : (k : NumberKind) (bytes : List ℕ) (w n m : ℕ) → is_integral k ≡ true → HasByteWidth k w → n ≡ length bytes / w → HoldIntegers k bytes m → m ≡ n
count_is k bytes w n m i h e held = sym (e ∙ div-eq_of_eq-mul_left (some_bytes k w i h) (held w h))

pub float_fault : (k : NumberKind) (bytes : List ℕ) (v : Valid) → is_integral k ≡ false → IsBytesFault error.WrongType k bytes v
float_fault k bytes v e = inl (not_integral k e)

pub float_value_fault : (k : NumberKind) (bytes : List ℕ) (v : Valid) (n : ℕ) → is_integral k ≡ false → IsValueBytesFault error.WrongType k bytes v n
float_value_fault k bytes v n e = inl (not_integral k e)

pub validity_fault : (e : ArrayError) (k : NumberKind) (bytes : List ℕ) (v : Valid) (w n : ℕ) → is_integral k ≡ true → HasByteWidth k w → n ≡ length bytes / w → IsValidityFault e v n → IsBytesFault e k bytes v
validity_fault error.WrongType k bytes v w n i h d f = inr (type_anywhere v n f)
validity_fault error.LengthMismatch k bytes v w n i h d f = (
  no_type_fault k v i (right_type v n f),
  (λ m fit.
      let same : m ≡ n = count_is k bytes w n m i h d (subst (HoldIntegers k bytes) (each_there m) fit.0) in
      other_length v n f (subst (HasLength v) same fit.1)),
)
validity_fault e k bytes v w n i h d f = absurd f

pub rest_fault : (k : NumberKind) (bytes : List ℕ) (v : Valid) (w n : ℕ) → is_integral k ≡ true → HasByteWidth k w → n ≡ length bytes / w → HasLength v n → (n * w ≡ length bytes → ⊥) → IsBytesFault error.LengthMismatch k bytes v
rest_fault k bytes v w n i h d f r = (
  no_type_fault k v i (fits_type v n f),
  (λ m fit.
      let held : HoldIntegers k bytes m = subst (HoldIntegers k bytes) (each_there m) fit.0 in
      let same : m ≡ n = count_is k bytes w n m i h d held in
      r (ap (λ x. x * w) (sym same) ∙ sym (held w h))),
)

pub value_validity_fault : (e : ArrayError) (k : NumberKind) (bytes : List ℕ) (v : Valid) (n : ℕ) → is_integral k ≡ true → IsValidityFault e v n → IsValueBytesFault e k bytes v n
value_validity_fault error.WrongType k bytes v n i f = inr (type_anywhere v n f)
value_validity_fault error.LengthMismatch k bytes v n i f = (no_type_fault k v i (right_type v n f), (λ fit. other_length v n f fit.1))
value_validity_fault e k bytes v n i f = absurd f

pub value_rest_fault : (k : NumberKind) (bytes : List ℕ) (v : Valid) (w c n : ℕ) → is_integral k ≡ true → HasByteWidth k w → c ≡ length bytes / w → HasLength v n → ((c * w ≡ length bytes) × (c ≡ valid_before v n) → ⊥) → IsValueBytesFault error.LengthMismatch k bytes v n
value_rest_fault k bytes v w c n i h d f r = (
  no_type_fault k v i (fits_type v n f),
  (λ fit.
      let same : valid_before v n ≡ c = count_is k bytes w c (valid_before v n) i h d fit.0 in
      r ((ap (λ x. x * w) (sym same) ∙ sym (fit.0 w h)), sym same)),
)

pub made_of_bytes : (k : NumberKind) (bytes : List ℕ) (r v : Valid) (w n : ℕ) (a : Layout) (i : IntKind) (zs : List ℤ) → is_integral k ≡ true → HasByteWidth k w → length bytes ≡ valid_before r n * w → integral i ≡ k → length zs ≡ n → ((x : ℕ) → HasByteWidth k x → StandInBytes i x r bytes zs) → a ≡ numbers i zs v → IsOfBytes k bytes r v n a
made_of_bytes k bytes r v w n a i zs t h e s m st made = record {
  kind = i;
  integers = zs;
  made = made;
  same_kind = s;
  many = m;
  whole = whole_any k w (valid_before r n) bytes t h e;
  values = st;
}

pub memory_fault : (e : ArrayError) (k : NumberKind) (bytes : List ℕ) (v : Valid) → e ≡ error.Memory → IsBytesFault e k bytes v
memory_fault e k bytes v h = subst (λ x. IsBytesFault x k bytes v) (sym h) tt

pub memory_value_fault : (e : ArrayError) (k : NumberKind) (bytes : List ℕ) (v : Valid) (n : ℕ) → e ≡ error.Memory → IsValueBytesFault e k bytes v n
memory_value_fault e k bytes v n h = subst (λ x. IsValueBytesFault x k bytes v n) (sym h) tt

pub ruleset whole_buffers = (float_fault, validity_fault, rest_fault, made_of_bytes, some_bytes, whole_any, each_there)

pub ruleset value_buffers = (float_value_fault, value_validity_fault, value_rest_fault, made_of_bytes, some_bytes, whole_any)
