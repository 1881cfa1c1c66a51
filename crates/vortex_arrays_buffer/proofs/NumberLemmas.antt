-- Integers of a list, and their type.
use Rattle.std.proofs.Common.{◌≡◌, ℕ, ℤ, pos, ◌≤◌, List, [], ◌∷◌, map, take, drop, get_or, Option, Some, None, refl, sym, ap, subst, ◌∙◌, arith}
use Rattle.std.specs.List.{All, slice_get}
use Rattle.std.specs.Prelude.{◌≤ℤ◌}
use Rattle.std.specs.Option.{option_map}
use Rattle.std.proofs.lemmas.Int.{ints}
use Rattle.std.proofs.lemmas.List.{map-id, take-map, drop-map, get_or_default}
use Rattle.std.proofs.lemmas.List.Elements.{All-map}
use Rattle.std.proofs.lemmas.Option.{get_or_from_slice_get, slice_get-map}
use Rattle.vortex_model.specs.LogicalType.{IntKind}
use Rattle.vortex_model.specs.Valid.{InRange, least_number, greatest_number}

pub eq_integers : (xs : List ℤ) → xs ≡ map (λ z. z) xs
eq_integers xs = sym (map-id xs)

pub ruleset eq_numbers = (eq_integers)

-- a part of the integers
pub part_of_naturals : (xs : List ℕ) (n i : ℕ) → take n (drop i (map pos xs)) ≡ map pos (take n (drop i xs))
part_of_naturals xs n i = ap (take n) (drop-map pos i xs) ∙ take-map pos n (drop i xs)

-- items of an unsigned type with the greatest number g are integers of the type from 0 to g
pub naturals_held : (i : IntKind) (g : ℕ) → least_number i ≡ pos 0 → greatest_number i ≡ pos g → (xs : List ℕ) → ((k : ℕ) → get_or xs k 0 ≤ g) → All (InRange i) (map pos xs)
naturals_held i g e f xs h = All-map (InRange i) pos xs (λ k d l.
    let low : get_or xs k d ≤ g = subst (λ n. n ≤ g) (get_or_default xs k 0 d l) (h k) in
    record { from = subst (λ z. z ≤ℤ pos (get_or xs k d)) (sym e) (grind (arith, ints)); to = subst (λ z. pos (get_or xs k d) ≤ℤ z) (sym f) (grind (arith, ints, low)) })

-- items that were read one by one
pub items_read : {X : Type 0} (xs ys : List X) (ps : List ℕ) (d : X) → map Some ys ≡ map (slice_get xs) ps → ys ≡ map (λ i. get_or xs i d) ps
items_read xs [] [] d e = refl
items_read xs [] (p ∷ ps) d e = absurd (cc (e))
items_read xs (y ∷ ys) [] d e = absurd (cc (e))
items_read {X} xs (y ∷ ys) (p ∷ ps) d e =
    let first : slice_get xs p ≡ Some y = sym (ap (λ (l : List (Option X)). get_or l 0 None) e) in
    let rest : map Some ys ≡ map (slice_get xs) ps = ap (drop 1) e in
    (λ t. sym (get_or_from_slice_get xs p y d first) t ∷ items_read xs ys ps d rest t)

pub integers_read : (xs ys : List ℤ) (ps : List ℕ) → map Some ys ≡ map (slice_get xs) ps → ys ≡ map (λ i. get_or xs i (pos 0)) ps
integers_read xs ys ps e = items_read xs ys ps (pos 0) e

pub naturals_read : (xs ys : List ℕ) (ps : List ℕ) → map Some ys ≡ map (slice_get xs) ps → map pos ys ≡ map (λ i. get_or (map pos xs) i (pos 0)) ps
naturals_read xs [] [] e = refl
naturals_read xs [] (p ∷ ps) e = absurd (cc (e))
naturals_read xs (y ∷ ys) [] e = absurd (cc (e))
naturals_read xs (y ∷ ys) (p ∷ ps) e =
    let first : slice_get xs p ≡ Some y = sym (ap (λ (l : List (Option ℕ)). get_or l 0 None) e) in
    let rest : map Some ys ≡ map (slice_get xs) ps = ap (drop 1) e in
    let here : get_or (map pos xs) p (pos 0) ≡ pos y = get_or_from_slice_get (map pos xs) p (pos y) (pos 0) (slice_get-map pos xs p ∙ ap (option_map pos) first) in
    (λ t. sym here t ∷ naturals_read xs ys ps rest t)
