-- The least and the greatest of a list of values.
use Rattle.std.proofs.Common.{◌≡◌, refl, sym, ◌∙◌, ap, subst, ℕ, zero, suc, ◌<◌, List, [], ◌∷◌, length, get_or, Bool, true, false, ◌&&◌, if◌then◌else◌, Option, Some, None, inl, inr, arith, Contains, option_map}
use Rattle.std.specs.List.{AllByRecursion, list_all, find}
use Rattle.std.specs.declared.cmp.Ordering.{Ordering}
use Rattle.std.specs.declared.cmp.Ordering.TheVariants.{Less, Equal, Greater}
use Rattle.std.specs.Ordering.{ordering_reverse, is_le}
use Rattle.std.specs.Cmp.{first_so, second_so}
use Rattle.vortex_model.specs.Content.{Content}
use Rattle.vortex_model.specs.Order.{content_cmp, is_known}
use Rattle.vortex_model_table.specs.Statistics.{is_at_most, IsLeast, IsGreatest}
use Rattle.vortex_model_table.proofs.ContentOrder.{reversed}
use Rattle.vortex_model_table.proofs.Chains.{tied}
use Rattle.vortex_model_laws.proofs.Honesty.{Among, all_among}

-- ---- an item of a list

pub all_mapped : {X : Type 0} (P Q : X → Type 0) → ((x : X) → P x → Q x) → (xs : List X) → AllByRecursion P xs → AllByRecursion Q xs
all_mapped P Q f [] h = tt
all_mapped P Q f (x ∷ xs) h = (f x h.0, all_mapped P Q f xs h.1)

contains_more : {X : Type 0} (x v : X) (xs : List X) → Contains xs v → Contains (x ∷ xs) v
contains_more x v xs h = (suc h.0, (let p = h.1 in omega (arith, p)), h.2)

contains_first : {X : Type 0} (x : X) (xs : List X) → Contains (x ∷ xs) x
contains_first x xs = (0, omega arith, refl)

pub among_contains : {X : Type 0} (v : X) (xs : List X) → Among v xs → Contains xs v
among_contains v [] h = absurd h
among_contains v (x ∷ xs) (inl e) = subst (Contains (x ∷ xs)) e (contains_first x xs)
among_contains v (x ∷ xs) (inr h) = contains_more x v xs (among_contains v xs h)

at_index : {X : Type 0} (v : X) (xs : List X) (i : ℕ) → i < length xs → get_or xs i v ≡ v → Among v xs
at_index v [] i h e = absurd (omega (arith, h))
at_index v (x ∷ xs) zero h e = inl e
at_index v (x ∷ xs) (suc i) h e = inr (at_index v xs i (omega (arith, h)) e)

pub contains_among : {X : Type 0} (v : X) (xs : List X) → Contains xs v → Among v xs
contains_among v xs h = at_index v xs h.0 h.1 h.2

-- ---- the first item that passes

found_first : {X : Type 0} (p : X → Bool) (v : X) (xs : List X) → find p xs ≡ Some v → Among v xs × (p v ≡ true)
found_first p v [] e = absurd (cc (e))
found_first p v (x ∷ xs) e = by_test (p x) refl e (λ g. found_first p v xs g)
  where
    by_test : (b : Bool) → p x ≡ b → (if b then Some x else find p xs) ≡ Some v → (find p xs ≡ Some v → Among v xs × (p v ≡ true)) → Among v (x ∷ xs) × (p v ≡ true)
    by_test true f g k = let same : x ≡ v = cc (g) in (inl same, ap p (sym same) ∙ f)
    by_test false f g k = let h = k g in (inr h.0, h.1)

found_some : {X : Type 0} (p : X → Bool) (v : X) (xs : List X) → Among v xs → p v ≡ true → (w : X) × (find p xs ≡ Some w)
found_some p v [] h e = absurd h
found_some {X} p v (x ∷ xs) h e = by_test (p x) refl h (λ g. found_some p v xs g e)
  where
    by_test : (b : Bool) → p x ≡ b → Among v (x ∷ xs) → (Among v xs → (w : X) × (find p xs ≡ Some w)) → (w : X) × ((if b then Some x else find p xs) ≡ Some w)
    by_test true f g k = (x, refl)
    by_test false f (inl g) k = let clash : true ≡ false = sym e ∙ ap p (sym g) ∙ f in absurd (cc (clash))
    by_test false f (inr g) k = k g

all_from_test : {X : Type 0} (p : X → Bool) (xs : List X) → list_all p xs ≡ true → AllByRecursion (λ x. p x ≡ true) xs
all_from_test p [] h = tt
all_from_test p (x ∷ xs) h = (first_so (p x) (list_all p xs) h, all_from_test p xs (second_so (p x) (list_all p xs) h))

test_from_all : {X : Type 0} (p : X → Bool) (xs : List X) → AllByRecursion (λ x. p x ≡ true) xs → list_all p xs ≡ true
test_from_all p [] h = refl
test_from_all p (x ∷ xs) h = λ i. h.0 i && test_from_all p xs h.1 i

-- ---- the value that is related to each

-- v is one of the values, and is related to each
abbrev pub IsEnd : (Content → Content → Bool) → Content → List Content → Type 0
IsEnd R v cs = Among v cs × AllByRecursion (λ c. R v c ≡ true) cs

abbrev pub picked : (Content → Content → Bool) → List Content → Option Content
picked R cs = find (λ v. list_all (R v) cs) cs

pub picked_end : (R : Content → Content → Bool) (v : Content) (cs : List Content) → picked R cs ≡ Some v → IsEnd R v cs
picked_end R v cs e = let h = found_first (λ w. list_all (R w) cs) v cs e in (h.0, all_from_test (R v) cs h.1)

-- where the relation is antisymmetric, the end is unique, and so is the one picked
pub end_picked : (R : Content → Content → Bool) → ((c d : Content) → R c d ≡ true → R d c ≡ true → c ≡ d) →
    (v : Content) (cs : List Content) → IsEnd R v cs → picked R cs ≡ Some v
end_picked R antisym v cs h =
    let found = found_some (λ w. list_all (R w) cs) v cs h.0 (test_from_all (R v) cs h.1) in
    let w = picked_end R found.0 cs found.1 in
    found.1 ∙ ap (λ x. Some x) (antisym found.0 v (all_among (λ c. R found.0 c ≡ true) v cs w.1 h.0) (all_among (λ c. R v c ≡ true) found.0 cs h.1 w.0))

-- ---- the order of contents, and its reverse

-- c compares with d and is not below it
abbrev pub is_at_least : Content → Content → Bool
is_at_least c d = is_at_most d c

pub at_most_both : (c d : Content) → is_at_most c d ≡ true → is_at_most d c ≡ true → c ≡ d
at_most_both c d h g = by_order (content_cmp c d) refl h
  where
    by_order : (p : Option Ordering) → content_cmp c d ≡ p → is_known is_le p ≡ true → c ≡ d
    by_order None e f = absurd (cc (f))
    by_order (Some Equal) e f = tied c d e
    by_order (Some Greater) e f = absurd (cc (f))
    by_order (Some Less) e f =
        let back : is_known is_le (option_map ordering_reverse (Some Less)) ≡ true = ap (λ p. is_known is_le (option_map ordering_reverse p)) (sym e) ∙ ap (is_known is_le) (sym (reversed c d)) ∙ g in absurd (cc (back))

pub at_least_both : (c d : Content) → is_at_least c d ≡ true → is_at_least d c ≡ true → c ≡ d
at_least_both c d h g = at_most_both c d g h

pub as_least : (v : Content) (cs : List Content) → IsEnd is_at_most v cs → IsLeast v cs
as_least v cs h = record { among = among_contains v cs h.0; least = h.1 }

pub as_greatest : (v : Content) (cs : List Content) → IsEnd is_at_least v cs → IsGreatest v cs
as_greatest v cs h = record { among = among_contains v cs h.0; greatest = h.1 }

pub of_least : (v : Content) (cs : List Content) → IsLeast v cs → IsEnd is_at_most v cs
of_least v cs h = (contains_among v cs h.among, h.least)

pub of_greatest : (v : Content) (cs : List Content) → IsGreatest v cs → IsEnd is_at_least v cs
of_greatest v cs h = (contains_among v cs h.among, h.greatest)
