-- The bytes of hexadecimal digits, appended to others.
use Rattle.std.proofs.Common.{◌≡◌, ◌<◌, ◌≤◌, ◌+◌, ◌-◌, ◌*◌, ◌^◌, ℕ, suc, List, [], ◌∷◌, ◌++◌, length, take, drop, replicate, map, Option, Some, Result, Ok, Err, refl, sym, ap, subst, ◌∙◌, arith}
use Rattle.std.specs.Prelude.{MatchResult}
use Rattle.std.proofs.lemmas.List.{length-append, length-drop, length-replicate, take_at, take_all, drop_at, drop_all, append-nil}
use borrow.Rule.Slice.PartMut.{post_of}
use Rattle.hex.specs.Hex.{IsBytes, decode_of, decode_sized}
use Rattle.hex.specs.declared.error.FromHexError.{FromHexError}
use Rattle.hex.proofs.HexLemmas.{decode_of-ok, decode_sized-ok, decode_sized-twice}
use Rattle.vortex_model.specs.Valid.{AreBytes}
use Rattle.vortex_arrays_view.specs.Made.{view_of}
use Rattle.vortex_arrays_model.specs.Layout.{byte_strings}
use Rattle.vortex_table_columns.specs.Views.{values_of, AreValues}
use Rattle.vortex_table_columns.proofs.ViewLemmas.{values_stay, value_stays, value_pushed}

-- ---- decoding into room

decoded_so : (x : Result (List ℕ) FromHexError) (r : Result (Unit {0}) FromHexError) (u : Unit {0}) (out : List ℕ) → MatchResult x (λ bytes. (r ≡ Ok tt) × (out ≡ bytes)) (λ e. r ≡ Err e) → r ≡ Ok u → x ≡ Ok out
decoded_so (Ok bytes) r u out h e = ap Ok (sym h.1)
decoded_so (Err x) r u out h e = absurd (cc (sym e ∙ h))

pub is_decoded : (s : List ℕ) (n : ℕ) (r : Result (Unit {0}) FromHexError) (u : Unit {0}) (out : List ℕ) → MatchResult (decode_sized s n) (λ bytes. (r ≡ Ok tt) × (out ≡ bytes)) (λ e. r ≡ Err e) → r ≡ Ok u → decode_of s ≡ Ok out
is_decoded s n r u out h e =
    let d = decoded_so (decode_sized s n) r u out h e in
    sym (decode_sized-twice s n (decode_sized-ok s n out d)) ∙ d

-- the end of a list that was overwritten
pub end_written : (items all room out : List ℕ) (start n m len : ℕ) → start ≡ length items → all ≡ take n items ++ replicate m 0 → length items ≤ n → room ≡ all → length out ≡ m → len ≡ length all
    → take len (take start room ++ (out ++ post_of start (length room - start) room) ++ drop (length (take start room ++ (out ++ post_of start (length room - start) room))) all) ≡ items ++ out
end_written items all room out start n m len at is fits same many whole =
    let fill : List ℕ = replicate m 0 in
    let grown : all ≡ items ++ fill = is ∙ ap (λ xs. xs ++ fill) (take_all n items fits) in
    let post : post_of start (length room - start) room ≡ [] = drop_all (length room - start) (drop start room) (omega (arith, length-drop start room)) in
    let held : take start room ≡ items = ap (take start) (same ∙ grown) ∙ take_at items fill start (sym at) in
    let written : take start room ++ (out ++ post_of start (length room - start) room) ≡ items ++ out =
    ap (λ xs. xs ++ (out ++ post_of start (length room - start) room)) held ∙ ap (λ xs. items ++ (out ++ xs)) post ∙ ap (λ xs. items ++ xs) (append-nil out) in
    let sum : length all ≡ length items + m = ap length grown ∙ length-append items fill ∙ ap (λ k. length items + k) (length-replicate m 0) in
    let size : length (items ++ out) ≡ len = length-append items out ∙ (omega (arith, many, whole, sum)) in
    ap (λ xs. take len (xs ++ drop (length xs) all)) written ∙ take_at (items ++ out) _ len size

-- ---- one more value

bytes_so : (bs : List ℕ) → IsBytes bs → AreBytes bs
bytes_so [] h = tt
bytes_so (b ∷ bs) h = (h 0, bytes_so bs (λ i. h (suc i)))

-- digits decode to bytes
are_bytes : (s value : List ℕ) → decode_of s ≡ Ok value → AreBytes value
are_bytes s value e = bytes_so value (decode_of-ok s value e).3

pub kept_front : (old put kept : List ℕ) (start : ℕ) → start ≡ length old → take (length old) put ≡ old → take start kept ≡ take start put → take (length old) kept ≡ old
kept_front old put kept start at e f = sym (ap (λ n. take n kept) at) ∙ f ∙ ap (λ n. take n put) at ∙ e

kept_long : (old put kept value : List ℕ) (start : ℕ) → start ≡ length old → put ≡ old ++ value → (12 + start < length put → kept ≡ put) → 12 < length value → kept ≡ old ++ value
kept_long old put kept value start at is h long =
    let many : length put ≡ length old + length value = ap length is ∙ length-append old value in
    h (omega (arith, many, at, long)) ∙ is

module _ (old put room kept value s view : List ℕ) (views : List (Option (List ℕ))) (start : ℕ) (at : start ≡ length old) (few : length put < 2 ^ 32) (decoded : decode_of s ≡ Ok value) (is : put ≡ old ++ value) (h : AreValues byte_strings old views)
    (keeps : take start kept ≡ take start put) (stays : 12 + start < length put → kept ≡ put) (same : room ≡ put) (made : view ≡ view_of (take (length room - start) (drop start room)) 0 start)
  where
    many : length put ≡ length old + length value
    many = ap length is ∙ length-append old value

    put_front : take (length old) put ≡ old
    put_front = ap (take (length old)) is ∙ take_at old value (length old) refl

    made_of : view ≡ view_of value 0 (length old)
    made_of =
        let tail : take (length room - start) (drop start room) ≡ value = take_all (length room - start) (drop start room) (omega (arith, length-drop start room)) ∙ ap (drop start) (same ∙ is) ∙ drop_at old value start (sym at) in
        made ∙ ap (λ x. view_of x 0 start) tail ∙ ap (view_of value 0) at

    pub digits_stay : AreValues byte_strings kept (views ++ Some view ∷ [])
    digits_stay = value_stays byte_strings old kept value view views (kept_front old put kept start at put_front keeps) (kept_long old put kept value start at is stays) (omega (arith, many, few)) (omega (arith, many, few)) (are_bytes s value decoded) made_of h

    pub digits_pushed : values_of kept (views ++ Some view ∷ []) ≡ values_of old views ++ Some value ∷ []
    digits_pushed = value_pushed byte_strings old kept value view views (kept_front old put kept start at put_front keeps) (kept_long old put kept value start at is stays) (omega (arith, many, few)) (omega (arith, many, few)) made_of h
