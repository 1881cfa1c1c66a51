-- Rows picked from an array's parts.
use Rattle.std.proofs.Common.{◌≡◌, ◌↔◌, IsTrue, ◌<◌, ◌≤◌, ◌+◌, ◌-◌, ◌*◌, ℕ, Bool, true, false, cond, List, [], ◌∷◌, ℤ, pos, negsuc, length, map, get_or, slice_range, Option, Some, None, refl, sym, ap, subst, ◌∙◌, arith}
use Rattle.std.specs.List.{All, zip}
use Rattle.std.specs.Prelude.{◌&&◌}
use Rattle.std.proofs.lemmas.List.{length-map, get_or-map}
use Rattle.std.proofs.lemmas.Slice.Zip.{length-zip, get_or-zip}
use Rattle.std.proofs.lemmas.Nat.{mul-le}
use Rattle.std.proofs.Math.Bool.{and-true, and-false}
use Rattle.vortex_model.specs.LogicalType.{LogicalType, IntKind, integer_type, Nullability, non_nullable, nullable, is_nullable, IsNullable, nullability_of, either_nullable}
use Rattle.vortex_model.specs.Content.{Content, null, integer}
use Rattle.vortex_model.specs.Valid.{InRange, IsContent}
use Rattle.vortex_arrays_model.specs.Layout.{Strings, Layout, bools, numbers, strings, fixed_lists, records, Valid, required, all_valid, all_null, by_array, len_of, array_type_of, nullability_by, is_valid, content_at, IsInteger, IsCode, IsSound, HasLength}
use Rattle.vortex_arrays_model.specs.Parts.{AreWithin, columns_of}
use Rattle.vortex_arrays_buffer.specs.Places.{IsPlace, ArePlacesWhere, bit_at_number}
use Rattle.vortex_arrays_model.specs.Picks.{Picks, PicksValid, PicksSomeValid, position_of, is_valid_some}
use Rattle.vortex_arrays_model.specs.Column.{IsValidInBoth}
use Rattle.vortex_arrays_model.proofs.ValidRows.{rows_valid}
use Rattle.vortex_arrays_model.proofs.PicksLemmas.{picks_all, picks_same, picks_bools, picks_numbers, picks_strings, picks_constant, picks_dictionary, picks_fixed_lists_from, picks_list_views_from, picks_records, get_or-part, length-part, All-part}
use Rattle.vortex_arrays_model.proofs.SomeLemmas.{picks_some_dictionary}
use Rattle.vortex_arrays_core.specs.Flags.{ViewFlags, no_view, field_flags, flags_of, flags_in}
use Rattle.vortex_arrays_core.specs.Picking.{IsUnsigned}

-- an array is the slice of all of its rows
pub picks_whole : (a : Layout) (n start : ℕ) → IsSound a → start + n ≤ len_of a → n ≡ len_of a → Picks a a n (λ i. start + i)
picks_whole a n start s fits all =
    let p : Picks a a n (λ i. i) = subst (λ m. Picks a a m (λ i. i)) (sym all) (picks_all a s) in
    picks_same a a n (λ i. i) (λ i. start + i) (λ i l. omega (arith, all)) p

-- n lists, and m more
more_lists : (s n m : ℕ) → (n + m) * s ≡ n * s + m * s
more_lists s n m = omega arith

elements_of_part : (s start end : ℕ) → start ≤ end → end * s ≡ start * s + (end - start) * s
elements_of_part s start end order = let e : end ≡ start + (end - start) = omega arith in ap (λ n. n * s) e ∙ more_lists s start (end - start)

-- the elements of neighbouring lists of one size, by their start and end
pub picks_lists_between : (e r : Layout) (s m start end first last : ℕ) (v w : Valid) → start ≤ end → first ≡ start * s → last ≡ end * s → Picks e r (last - first) (λ i. first + i) → PicksValid v w (end - start) (λ i. start + i) → Picks (fixed_lists e s m v) (fixed_lists r s (end - start) w) (end - start) (λ i. start + i)
picks_lists_between e r s m start end first last v w order begins ends p q =
    let many : last - first ≡ (end - start) * s = omega (arith, begins, ends, elements_of_part s start end order) in
    let here : Picks e r (last - first) (λ i. start * s + i) = subst (λ k. Picks e r (last - first) (λ i. k + i)) begins p in
    picks_fixed_lists_from e r s m start v w (end - start) (subst (λ n. Picks e r n (λ i. start * s + i)) many here) q

-- the first lists have no more elements than all lists
pub elements_fit : (s n m count : ℕ) → n ≤ m → count ≡ m * s → n * s ≤ count
elements_fit s n m count h e = subst (λ c. n * s ≤ c) (sym e) (mul-le n s m s h (omega arith))

-- a range of rows has as many values as validities
pub parts_fit : {X : Type 0} (xs : List X) (w : Valid) (start end : ℕ) → start ≤ end → end ≤ length xs → HasLength w (end - start) → HasLength w (length (slice_range xs start end))
parts_fit xs w start end order within h = subst (HasLength w) (sym (length-part xs (end - start) start (omega arith))) h

-- neighbouring rows of each layout
pub slices_bools : (xs : List Bool) (v w : Valid) (start end : ℕ) → start ≤ end → end ≤ length xs → PicksValid v w (end - start) (λ i. start + i) → Picks (bools xs v) (bools (slice_range xs start end) w) (end - start) (λ i. start + i)
slices_bools xs v w start end order within p = picks_bools xs (slice_range xs start end) v w (end - start) (λ i. start + i) (length-part xs (end - start) start (omega arith)) (λ i l. get_or-part xs (end - start) start false i l) p

pub slices_numbers : (k : IntKind) (xs : List ℤ) (v w : Valid) (start end : ℕ) → IsSound (numbers k xs v) → start ≤ end → end ≤ length xs → PicksValid v w (end - start) (λ i. start + i) → Picks (numbers k xs v) (numbers k (slice_range xs start end) w) (end - start) (λ i. start + i)
slices_numbers k xs v w start end s order within p =
    let inside : start + (end - start) ≤ length xs = omega arith in
    picks_numbers k xs (slice_range xs start end) v w (end - start) (λ i. start + i) (length-part xs (end - start) start inside) (All-part (InRange k) xs (end - start) start inside s.0) (λ i l. get_or-part xs (end - start) start (pos 0) i l) p

pub slices_strings : (k : Strings) (xs bs : List (List ℕ)) (v w : Valid) (start end : ℕ) → IsSound (strings k xs bs v) → start ≤ end → end ≤ length xs → PicksValid v w (end - start) (λ i. start + i) → Picks (strings k xs bs v) (strings k (slice_range xs start end) bs w) (end - start) (λ i. start + i)
slices_strings k xs bs v w start end s order within p =
    picks_strings k xs (slice_range xs start end) bs v w (end - start) (λ i. start + i) s (length-part xs (end - start) start (omega arith)) (λ i l. omega arith) (λ i l. get_or-part xs (end - start) start [] i l) p

-- columns with the flags of others
abbrev pub flags_together : List ViewFlags → ViewFlags
flags_together [] = no_view
flags_together (f ∷ fs) = field_flags f (flags_together fs)

pub flags_in_columns : (xs : List (List ℕ)) (fs : List Layout) → flags_in (columns_of xs fs) ≡ flags_together (map flags_of fs)
flags_in_columns xs [] = refl
flags_in_columns [] (a ∷ fs) = ap (field_flags (flags_of a)) (flags_in_columns [] fs)
flags_in_columns (x ∷ xs) (a ∷ fs) = ap (field_flags (flags_of a)) (flags_in_columns xs fs)

pub records_flagged : (xs ys : List (List ℕ)) (fs gs : List Layout) (n m : ℕ) (v w : Valid) → map flags_of gs ≡ map flags_of fs → flags_of (records (columns_of ys gs) n w) ≡ flags_of (records (columns_of xs fs) m v)
records_flagged xs ys fs gs n m v w e = flags_in_columns ys gs ∙ ap flags_together e ∙ sym (flags_in_columns xs fs)

pub ruleset picked = (records_flagged, slices_bools, slices_numbers, slices_strings, picks_constant, picks_dictionary, picks_lists_between, picks_list_views_from, picks_records)

pub unsigned_are_integers : (k : LogicalType) → IsUnsigned k → IsInteger k
unsigned_are_integers (integer_type i n) h = tt
unsigned_are_integers k h = absurd h

pub ruleset taken = (unsigned_are_integers, picks_some_dictionary)

pub either_second : (m : Nullability) → either_nullable m nullable ≡ nullable
either_second non_nullable = refl
either_second nullable = refl

pub either_first : (m n : Nullability) → is_nullable m ≡ true → either_nullable m n ≡ nullable
either_first non_nullable n e = cc
either_first nullable n e = refl

pub not_nullable : (m : Nullability) → is_nullable m ≡ false → m ≡ non_nullable
not_nullable non_nullable e = refl
not_nullable nullable e = cc

-- an integer that can't be null is an index
is_position : (k : LogicalType) (c : Content) → IsInteger k → nullability_of k ≡ non_nullable → IsContent k c → is_valid_some required (position_of c) ≡ true
is_position (integer_type i n) null g e h = absurd (let b : IsNullable non_nullable = subst IsNullable e h in b)
is_position (integer_type i n) (integer z) g e h = refl
is_position (integer_type i n) c g e h = absurd h
is_position k c g e h = absurd g

no_row_valid : (p : Option ℕ) → is_valid_some all_null p ≡ false
no_row_valid None = refl
no_row_valid (Some i) = refl

valid_alike : (p : Option ℕ) → is_valid_some all_valid p ≡ is_valid_some required p
valid_alike None = refl
valid_alike (Some i) = refl

-- which rows are null at indices that can't be null
pub taken_required : (c : Layout) → IsSound c → IsInteger (array_type_of c) → nullability_of (array_type_of c) ≡ non_nullable → PicksSomeValid required required (nullability_of (array_type_of c)) (len_of c) (λ i. position_of (content_at c i))
taken_required c s g e = record {
  fits = tt;
  nullability = sym (ap (λ m. either_nullable m non_nullable) e);
  bits = λ i l. sym (is_position (array_type_of c) (content_at c i) g e (rows_valid c s i l));
}

pub taken_all_valid : (c : Layout) → IsSound c → IsInteger (array_type_of c) → nullability_of (array_type_of c) ≡ non_nullable → PicksSomeValid all_valid all_valid (nullability_of (array_type_of c)) (len_of c) (λ i. position_of (content_at c i))
taken_all_valid c s g e = record {
  fits = tt;
  nullability = sym (either_second (nullability_of (array_type_of c)));
  bits = λ i l. let p : is_valid_some required (position_of (content_at c i)) ≡ true = is_position (array_type_of c) (content_at c i) g e (rows_valid c s i l) in sym (valid_alike (position_of (content_at c i)) ∙ p);
}

-- each row of an array of nulls is null at each index
pub taken_all_null : (m : Nullability) (n : ℕ) (f : ℕ → Option ℕ) → PicksSomeValid all_null all_null m n f
taken_all_null m n f = record { fits = tt; nullability = sym (either_second m); bits = λ i l. sym (no_row_valid (f i)) }

-- which rows are null, for each index
pub taken_by_array : (v : Valid) (m : Nullability) (n : ℕ) (f : ℕ → Option ℕ) (a : Layout) (bs : List Bool) → either_nullable m (nullability_by v) ≡ nullable → a ≡ bools bs required → length bs ≡ n → ((i : ℕ) → i < n → get_or bs i false ≡ is_valid_some v (f i)) → PicksSomeValid v (by_array a) m n f
taken_by_array v m n f a bs e made many same = subst (λ b. PicksSomeValid v (by_array b) m n f) (sym made) (record {
  fits = (tt, many, refl);
  nullability = sym e;
  bits = λ i l. same i l;
})

-- an index is null where its validity is false
told : (b : Bool) (z : ℤ) → b ≡ is_valid_some required (position_of (cond b (integer z) null))
told true z = refl
told false z = refl

as_before : (m : Nullability) → m ≡ either_nullable m non_nullable
as_before non_nullable = refl
as_before nullable = refl

is_nullable_too : (m : Nullability) → is_nullable m ≡ true → m ≡ either_nullable m nullable
is_nullable_too non_nullable e = cc
is_nullable_too nullable e = refl

-- where no row is null, the rows with a null index are null
pub taken_by_nulls : (c : Layout) (k : IntKind) (xs : List ℤ) (w u : Valid) → c ≡ numbers k xs w → IsSound c → u ≡ w → PicksSomeValid required u (nullability_of (array_type_of c)) (len_of c) (λ i. position_of (content_at c i))
taken_by_nulls c k xs w u e s d =
    let h : IsSound (numbers k xs w) = subst IsSound e s in
    let same : PicksSomeValid required w (nullability_by w) (length xs) (λ i. position_of (content_at (numbers k xs w) i)) = record {
      fits = h.1;
      nullability = as_before (nullability_by w);
      bits = λ i l. told (is_valid w i) (get_or xs i (pos 0));
    } in
    subst (λ x. PicksSomeValid required u (nullability_of (array_type_of x)) (len_of x) (λ i. position_of (content_at x i))) (sym e)
    (subst (λ v. PicksSomeValid required v (nullability_by w) (length xs) (λ i. position_of (content_at (numbers k xs w) i))) (sym d) same)

pub taken_by_nulls_too : (c : Layout) (k : IntKind) (xs : List ℤ) (w u : Valid) → c ≡ numbers k xs w → IsSound c → is_nullable (nullability_of (array_type_of c)) ≡ true → u ≡ w → PicksSomeValid all_valid u (nullability_of (array_type_of c)) (len_of c) (λ i. position_of (content_at c i))
taken_by_nulls_too c k xs w u e s n d =
    let h : IsSound (numbers k xs w) = subst IsSound e s in
    let can : is_nullable (nullability_by w) ≡ true = subst (λ x. is_nullable (nullability_of (array_type_of x)) ≡ true) e n in
    let same : PicksSomeValid all_valid w (nullability_by w) (length xs) (λ i. position_of (content_at (numbers k xs w) i)) = record {
      fits = h.1;
      nullability = is_nullable_too (nullability_by w) can;
      bits = λ i l. told (is_valid w i) (get_or xs i (pos 0)) ∙ sym (valid_alike (position_of (content_at (numbers k xs w) i)));
    } in
    subst (λ x. PicksSomeValid all_valid u (nullability_of (array_type_of x)) (len_of x) (λ i. position_of (content_at x i))) (sym e)
    (subst (λ v. PicksSomeValid all_valid v (nullability_by w) (length xs) (λ i. position_of (content_at (numbers k xs w) i))) (sym d) same)

pub ruleset rows_taken = (either_first, either_second, not_nullable, taken_required, taken_all_valid, taken_all_null, taken_by_nulls, taken_by_nulls_too)

-- packed bits combined
pub bits_met : (a b r : Layout) (xs ys zs : List Bool) → a ≡ bools xs required → b ≡ bools ys required → length ys ≡ length xs → r ≡ bools zs required → zs ≡ map (λ p. p.0 && p.1) (zip xs ys) → IsValidInBoth (by_array a) (by_array b) (by_array r) (len_of a)
bits_met a b r xs ys zs e d same made m =
    let many : length (zip xs ys) ≡ length xs = length-zip xs ys ∙ omega (arith, same) in
    let met : IsValidInBoth (by_array (bools xs required)) (by_array (bools ys required)) (by_array (bools zs required)) (length xs) = record {
      fits = (tt, ap length m ∙ length-map (zip xs ys) (λ p. p.0 && p.1) ∙ many, refl);
      nullability = refl;
      bits = λ i l. ap (λ z. get_or z i false) m ∙ get_or-map (λ p. p.0 && p.1) (zip xs ys) i (false, false) false (omega (arith, many, l))
          ∙ ap (λ p. p.0 && p.1) (get_or-zip xs ys i (false, false) l (omega (arith, same, l)));
    } in
    subst (λ x. IsValidInBoth (by_array x) (by_array b) (by_array r) (len_of x)) (sym e)
    (subst (λ y. IsValidInBoth (by_array (bools xs required)) (by_array y) (by_array r) (length xs)) (sym d)
    (subst (λ z. IsValidInBoth (by_array (bools xs required)) (by_array (bools ys required)) (by_array z) (length xs)) (sym made) met))

code_of_place : (n : ℕ) (z : ℤ) → IsPlace n z → IsCode n (integer z)
code_of_place n (pos i) h = h
code_of_place n (negsuc i) h = absurd h

code_where : (n : ℕ) (z : ℤ) (b : Bool) → IsPlace n z → IsCode n (cond b (integer z) null)
code_where n z true h = code_of_place n z h
code_where n z false h = tt

-- integers that are indices, those of null rows too
pub numbers_within : (k : IntKind) (xs : List ℤ) (v : Valid) (n : ℕ) → All (IsPlace n) xs → AreWithin (numbers k xs v) n
numbers_within k xs v n h i l = code_where n (get_or xs i (pos 0)) (is_valid v i) (h i (pos 0) l)

place_of_code : (n : ℕ) (z : ℤ) → IsCode n (integer z) → IsPlace n z
place_of_code n (pos i) h = h
place_of_code n (negsuc i) h = absurd h

place_where : (n : ℕ) (z : ℤ) (b : Bool) → IsCode n (cond b (integer z) null) → IsTrue b → IsPlace n z
place_where n z true h t = place_of_code n z h
place_where n z false h t = absurd (cc (t))

code_if : (n : ℕ) (z : ℤ) (b : Bool) → (IsTrue b → IsPlace n z) → IsCode n (cond b (integer z) null)
code_if n z true h = code_of_place n z (h refl)
code_if n z false h = tt

-- integers that are indices where their bit is true
pub within_where : (a : Layout) (k : IntKind) (zs : List ℤ) (v : Valid) (bits : List Bool) (n : ℕ) (b : Bool) → a ≡ numbers k zs v → v ≡ by_array (bools bits required) → (IsTrue b ↔ ArePlacesWhere bits n zs) → IsTrue b ↔ AreWithin a n
within_where a k zs v bits n b e w h =
    let here : IsTrue b ↔ AreWithin (numbers k zs (by_array (bools bits required))) n = (
      λ t i l. code_if n (get_or zs i (pos 0)) (get_or bits i false) (h.0 t i l),
      λ all. h.1 (λ i l. place_where n (get_or zs i (pos 0)) (get_or bits i false) (all i l)),
    ) in
    subst (λ x. IsTrue b ↔ AreWithin x n) (sym (e ∙ ap (numbers k zs) w)) here

told_where : (bits : List Bool) (n : ℕ) (z : ℤ) (b : Bool) → IsCode n (cond b (integer z) null) → (bit_at_number bits z && b) ≡ is_valid_some (by_array (bools bits required)) (position_of (cond b (integer z) null))
told_where bits n (pos i) true h = and-true (get_or bits i false)
told_where bits n (negsuc i) true h = absurd h
told_where bits n z false h = and-false (bit_at_number bits z)

-- rows that are not null at indices that are not null
pub taken_by_bits : (v : Valid) (c r : Layout) (k : IntKind) (zs : List ℤ) (w u : Valid) (bits chosen : List Bool) (n m : ℕ) → v ≡ by_array (bools bits required) → c ≡ numbers k zs w → r ≡ bools chosen required → chosen ≡ map (bit_at_number bits) zs → n ≡ length zs → AreWithin c m → IsValidInBoth (by_array r) w u n → PicksSomeValid v u (nullability_of (array_type_of c)) (len_of c) (λ i. position_of (content_at c i))
taken_by_bits v c r k zs w u bits chosen n m is e made read many within both =
    let codes : AreWithin (numbers k zs w) m = subst (λ x. AreWithin x m) e within in
    let rows : IsValidInBoth (by_array (bools (map (bit_at_number bits) zs) required)) w u (length zs) = subst (λ x. IsValidInBoth (by_array (bools (map (bit_at_number bits) zs) required)) w u x) many (subst (λ x. IsValidInBoth (by_array x) w u n) (made ∙ ap (λ x. bools x required) read) both) in
    let same : PicksSomeValid (by_array (bools bits required)) u (nullability_by w) (length zs) (λ i. position_of (content_at (numbers k zs w) i)) = record {
      fits = rows.fits;
      nullability = rows.nullability ∙ sym (either_second (nullability_by w));
      bits = λ i l. rows.bits i l ∙ ap (λ x. x && is_valid w i) (get_or-map (bit_at_number bits) zs i (pos 0) false l) ∙ told_where bits m (get_or zs i (pos 0)) (is_valid w i) (codes i l);
    } in
    subst (λ x. PicksSomeValid v u (nullability_of (array_type_of x)) (len_of x) (λ i. position_of (content_at x i))) (sym e)
    (subst (λ y. PicksSomeValid y u (nullability_by w) (length zs) (λ i. position_of (content_at (numbers k zs w) i))) (sym is) same)
