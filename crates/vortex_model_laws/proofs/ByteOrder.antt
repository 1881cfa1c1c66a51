-- The lexicographic order of bytes.
use Rattle.std.proofs.Common.{◌≡◌, ℕ, ◌<◌, ◌≤◌, true, List, [], ◌∷◌, ◌++◌, refl, sym, ap, ◌∙◌, subst, arith, ◌⊎◌, inl, inr}
use Rattle.std.specs.declared.cmp.Ordering.{Ordering}
use Rattle.std.specs.declared.cmp.Ordering.TheVariants.{Less, Equal, Greater}
use Rattle.std.specs.Ordering.{nat_cmp, is_lt, is_le, ordering_then, ordering_reverse}
use Rattle.std.specs.Cmp.{nat_cmp_is}
use Rattle.std.specs.Cmp.Lexicographic.{slice_cmp}
use Rattle.std.proofs.lemmas.Cmp.{ranked, by_ranked, tied_itself, nat_list_cmp_total}
use Rattle.vortex_model_table.specs.Bounds.{IsBelow, IsAtMostBytes}
use Rattle.vortex_model_table.proofs.ContentOrder.{le_trans}

abbrev pub IsUnder : List ℕ → List ℕ → Type 0
IsUnder v w = slice_cmp nat_cmp v w ≡ Less

pub less_so : (o : Ordering) → is_lt o ≡ true → o ≡ Less
less_so Less h = refl
less_so Equal h = absurd (cc (h))
less_so Greater h = absurd (cc (h))

pub under_below : (v w : List ℕ) → IsUnder v w → IsBelow v w
under_below v w h = ap (λ o. is_lt o) h

pub below_under : (v w : List ℕ) → IsBelow v w → IsUnder v w
below_under v w h = less_so (slice_cmp nat_cmp v w) h

pub under_upto : (v w : List ℕ) → IsUnder v w → IsAtMostBytes v w
under_upto v w h = ap (λ o. is_le o) h

-- the first items decide, or where they are equal the rest does
pub under_cases : (x y : ℕ) (xs ys : List ℕ) → IsUnder (x ∷ xs) (y ∷ ys) → (x < y) ⊎ ((x ≡ y) × IsUnder xs ys)
under_cases x y xs ys h =
    by_ranked _ _ _ (nat_cmp x y) (ranked x y _ refl)
    (λ e lt. inl lt)
    (λ e eq. inr (eq, subst (λ o. ordering_then o (slice_cmp nat_cmp xs ys) ≡ Less) e h))
    (λ e gt. let k : Greater ≡ Less = subst (λ o. ordering_then o (slice_cmp nat_cmp xs ys) ≡ Less) e h in absurd (cc (k)))

pub under_head : (x y : ℕ) (xs ys : List ℕ) → x < y → IsUnder (x ∷ xs) (y ∷ ys)
under_head x y xs ys h = ap (λ o. ordering_then o (slice_cmp nat_cmp xs ys)) (sym (nat_cmp_is x y Less h))

pub eq_head : (x : ℕ) (xs ys : List ℕ) → slice_cmp nat_cmp (x ∷ xs) (x ∷ ys) ≡ slice_cmp nat_cmp xs ys
eq_head x xs ys = ap (λ o. ordering_then o (slice_cmp nat_cmp xs ys)) (sym (nat_cmp_is x x Equal refl))

pub under_tail : (x : ℕ) (xs ys : List ℕ) → IsUnder xs ys → IsUnder (x ∷ xs) (x ∷ ys)
under_tail x xs ys h = eq_head x xs ys ∙ h

-- not above at the first item, and below in the rest where the first items are equal
pub under_step : (x y : ℕ) (xs ys : List ℕ) → x ≤ y → (x ≡ y → IsUnder xs ys) → IsUnder (x ∷ xs) (y ∷ ys)
under_step x y xs ys le h =
    by_ranked _ _ _ (nat_cmp x y) (ranked x y _ refl)
    (λ e lt. under_head x y xs ys lt)
    (λ e eq. subst (λ z. IsUnder (x ∷ xs) (z ∷ ys)) eq (under_tail x xs ys (h eq)))
    (λ e gt. absurd (omega arith))

pub eq_front : (p r t : List ℕ) → slice_cmp nat_cmp (p ++ r) (p ++ t) ≡ slice_cmp nat_cmp r t
eq_front [] r t = refl
eq_front (x ∷ p) r t = eq_head x (p ++ r) (p ++ t) ∙ eq_front p r t

pub equal_same : (v w : List ℕ) → slice_cmp nat_cmp v w ≡ Equal → v ≡ w
equal_same [] [] h = refl
equal_same [] (y ∷ ys) h = absurd (cc)
equal_same (x ∷ xs) [] h = absurd (cc)
equal_same (x ∷ xs) (y ∷ ys) h =
    by_ranked _ _ _ (nat_cmp x y) (ranked x y _ refl)
    (λ e lt. let k : Less ≡ Equal = subst (λ o. ordering_then o (slice_cmp nat_cmp xs ys) ≡ Equal) e h in absurd (cc))
    (λ e eq. let k = equal_same xs ys (subst (λ o. ordering_then o (slice_cmp nat_cmp xs ys) ≡ Equal) e h) in cc)
    (λ e gt. let k : Greater ≡ Equal = subst (λ o. ordering_then o (slice_cmp nat_cmp xs ys) ≡ Equal) e h in absurd (cc))

both_ways : (o : Ordering) → is_le o ≡ true → is_le (ordering_reverse o) ≡ true → o ≡ Equal
both_ways Less h k = absurd (cc (k))
both_ways Equal h k = refl
both_ways Greater h k = absurd (cc (h))

pub upto_antisym : (v w : List ℕ) → IsAtMostBytes v w → IsAtMostBytes w v → v ≡ w
upto_antisym v w h k =
    equal_same v w (both_ways (slice_cmp nat_cmp v w) h (subst (λ o. is_le o ≡ true) (nat_list_cmp_total.antisymm w v) k))

less_or : (v w : List ℕ) (r : Ordering) → slice_cmp nat_cmp v w ≡ r → IsUnder v w ⊎ IsAtMostBytes w v
less_or v w Less h = inl h
less_or v w Equal h = inr (ap (λ o. is_le o) (nat_list_cmp_total.antisymm w v ∙ ap ordering_reverse h))
less_or v w Greater h = inr (ap (λ o. is_le o) (nat_list_cmp_total.antisymm w v ∙ ap ordering_reverse h))

pub under_or_upto : (v w : List ℕ) → IsUnder v w ⊎ IsAtMostBytes w v
under_or_upto v w = less_or v w (slice_cmp nat_cmp v w) refl

pub upto_refl : (v : List ℕ) → IsAtMostBytes v v
upto_refl v = ap (λ o. is_le o) (tied_itself nat_list_cmp_total v)

pub upto_trans : (u v w : List ℕ) → IsAtMostBytes u v → IsAtMostBytes v w → IsAtMostBytes u w
upto_trans u v w h k = le_trans nat_list_cmp_total u v w h k

upto_nil : (v : List ℕ) → IsAtMostBytes [] v
upto_nil [] = refl
upto_nil (x ∷ v) = refl

-- a prefix is not above the whole
pub upto_front : (p r : List ℕ) → IsAtMostBytes p (p ++ r)
upto_front [] r = upto_nil r
upto_front (x ∷ p) r = ap (λ o. is_le o) (eq_head x p (p ++ r)) ∙ upto_front p r
