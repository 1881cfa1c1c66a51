-- Lists of integers as those of another type.
use Rattle.std.proofs.Common.{◌≡◌, ◌≤ℤ◌, ℤ, pos, List, [], ◌∷◌, map, length, get_or, true, false, Bool, ◌&&◌, Option, Some, None, refl, ap, ◌∙◌, arith}
use Rattle.std.specs.List.{fold, list_all}
use Rattle.std.proofs.lemmas.Int.{ints}
use Rattle.std.proofs.lemmas.List.{get_or-map, length-map}
use Rattle.std.proofs.lemmas.Bool.{and_parts}
use Rattle.vortex_model.specs.LogicalType.{IntKind}
use Rattle.vortex_model.specs.Valid.{in_range}
use Rattle.vortex_model.proofs.Tests.{range_so}
use Rattle.vortex_model.proofs.Passes.{range_passes}
use Rattle.vortex_arrays_cast.specs.Cast.{low_bits}
use Rattle.vortex_arrays_cast.specs.Ranges.{holds_range, Keeps}
use Rattle.vortex_arrays_cast.proofs.LowBitsLemmas.{low_bits_held}

pub bits_of_each : {A : Type 0} (k : IntKind) (f : A → ℤ) (xs : List A) → map (λ x. low_bits k (f x)) xs ≡ map (low_bits k) (map f xs)
bits_of_each k f [] = refl
bits_of_each k f (x ∷ xs) = ap (λ zs. low_bits k (f x) ∷ zs) (bits_of_each k f xs)

all_held : (k : IntKind) (zs : List ℤ) → list_all (in_range k) zs ≡ true → map (low_bits k) zs ≡ zs
all_held k [] h = refl
all_held k (z ∷ zs) h =
    let p = and_parts (in_range k z) (list_all (in_range k) zs) h in
    λ i. low_bits_held k z p.0 i ∷ all_held k zs p.1 i

-- an integer between two that the type has
held_between : (k : IntKind) (low high z : ℤ) → in_range k low ≡ true → in_range k high ≡ true → low ≤ℤ z → z ≤ℤ high → in_range k z ≡ true
held_between k low high z p q a b =
    let l = (range_so k low p).from in let g = (range_so k high q).to in
    range_passes k z (record { from = omega (arith, ints, l, a); to = omega (arith, ints, g, b) })

pub kept_same : (r : Option (ℤ × ℤ)) (zs ws : List ℤ) → ws ≡ zs → Keeps r zs ws
kept_same None zs ws e = e
kept_same (Some r) zs ws e = record { many = ap length e; each = λ i l a b. ap (λ us. get_or us i (pos 0)) e }

pub kept_all : (k : IntKind) (r : Option (ℤ × ℤ)) (zs ws : List ℤ) → list_all (in_range k) zs ≡ true → ws ≡ map (low_bits k) zs → Keeps r zs ws
kept_all k r zs ws h e = kept_same r zs ws (e ∙ all_held k zs h)

pub kept_range : (k : IntKind) (r : Option (ℤ × ℤ)) (zs ws : List ℤ) → holds_range k r ≡ true → ws ≡ map (low_bits k) zs → Keeps r zs ws
kept_range k None zs ws h e = absurd (cc h)
kept_range k (Some r) zs ws h e =
    let p = and_parts (in_range k r.0) (in_range k r.1) h in
    record {
      many = ap length e ∙ length-map zs (low_bits k);
      each = λ i l a b.
          ap (λ us. get_or us i (pos 0)) e ∙ get_or-map (low_bits k) zs i (pos 0) (pos 0) l
          ∙ low_bits_held k (get_or zs i (pos 0)) (held_between k r.0 r.1 (get_or zs i (pos 0)) p.0 p.1 a b);
    }

pub ruleset kept = (kept_same, kept_all, kept_range)

false_and : {A : Type 0} (p : A → Bool) (xs : List A) → fold (λ b x. b && p x) false xs ≡ false
false_and p [] = refl
false_and p (x ∷ xs) = false_and p xs

folded_from : {A : Type 0} (p : A → Bool) (xs : List A) (b : Bool) → fold (λ c x. c && p x) true xs ≡ list_all p xs → fold (λ c x. c && p x) b xs ≡ (b && list_all p xs)
folded_from p xs true h = h
folded_from p xs false h = false_and p xs

pub folded : {A : Type 0} (p : A → Bool) (xs : List A) → fold (λ b x. b && p x) true xs ≡ list_all p xs
folded p [] = refl
folded p (x ∷ xs) = folded_from p xs (p x) (folded p xs)
