-- Properties of values in another order.
use Rattle.std.proofs.Common.{◌≡◌, refl, sym, ◌∙◌, ap, ℕ, zero, suc, ◌<◌, arith, ◌+ℤ◌, List, [], ◌∷◌, length, get_or, set, swap, Bool, true, false, not, cond, inl, inr}
use Rattle.std.specs.List.Sorted.{IsPermutation}
use Rattle.std.proofs.Math.IntN.{+ℤ_assoc, +ℤ_comm}
use Rattle.std.proofs.lemmas.List.Sorted.{IsPermutation-keeps}
use Rattle.vortex_model.specs.Content.{Content, is_null}
use Rattle.vortex_model_table.specs.Statistics.{non_null, number_in, sum_of}
use Rattle.vortex_model_laws.proofs.Honesty.{Among}

-- A relation holds along each permutation if it is reflexive and transitive, and goes under a head
-- and over an exchange of two heads.
module _ {X : Type 0} (R : List X → List X → Type 0) (same : (xs : List X) → R xs xs)
    (skip : (x : X) (xs ys : List X) → R xs ys → R (x ∷ xs) (x ∷ ys))
    (turn : (x y : X) (xs : List X) → R (x ∷ y ∷ xs) (y ∷ x ∷ xs))
    (chain : (xs ys zs : List X) → R xs ys → R ys zs → R xs zs) where
  to_head : (l : List X) (j : ℕ) (x d : X) → j < length l → R (x ∷ l) (get_or l j d ∷ set l j x)
  to_head [] j x d h = absurd (omega arith)
  to_head (y ∷ l) zero x d h = turn x y l
  to_head (y ∷ l) (suc j) x d h =
      chain _ _ _ (turn x y l) (chain _ _ _ (skip y _ _ (to_head l j x d (omega arith))) (turn y
      (get_or l j d) (set l j x)))

  exchanged : (l : List X) (i j : ℕ) (d : X) → i < length l → j < length l →
      R l (set (set l i (get_or l j d)) j (get_or l i d))
  exchanged [] i j d p q = absurd (omega arith)
  exchanged (x ∷ l) zero zero d p q = same (x ∷ l)
  exchanged (x ∷ l) zero (suc j) d p q = to_head l j x d (omega arith)
  exchanged (x ∷ l) (suc i) zero d p q = to_head l i x d (omega arith)
  exchanged (x ∷ l) (suc i) (suc j) d p q = skip x _ _ (exchanged l i j d (omega arith)
      (omega arith))

  swapped : (l : List X) (i j : ℕ) → i < length l → j < length l → R l (swap l i j)
  swapped [] i j p q = same []
  swapped (x ∷ l) i j p q = exchanged (x ∷ l) i j x p q

  pub along_permutation : (xs ys : List X) → IsPermutation xs ys → R xs ys
  along_permutation xs = IsPermutation-keeps xs (R xs) (same xs) (λ l i j p q h. chain xs l _ h
      (swapped l i j p q))

-- ---- the values

abbrev pub AllIn : List Content → List Content → Type 0
AllIn us vs = (c : Content) → Among c us → Among c vs

in_skip : (x : Content) (us vs : List Content) → AllIn us vs → AllIn (x ∷ us) (x ∷ vs)
in_skip x us vs h c (inl e) = inl e
in_skip x us vs h c (inr g) = inr (h c g)

in_turned : (x y : Content) (us : List Content) → AllIn (x ∷ y ∷ us) (y ∷ x ∷ us)
in_turned x y us c (inl e) = inr (inl e)
in_turned x y us c (inr (inl e)) = inl e
in_turned x y us c (inr (inr g)) = inr (inr g)

pub all_in : (us vs : List Content) → IsPermutation us vs → AllIn us vs
all_in = along_permutation AllIn (λ us c h. h) in_skip in_turned (λ us vs ws h g c k. g c (h c k))

-- ---- those that are not null

abbrev pub KeptIn : List Content → List Content → Type 0
KeptIn cs ds = AllIn (non_null cs) (non_null ds)

kept_skip : (x : Content) (cs ds : List Content) → KeptIn cs ds → KeptIn (x ∷ cs) (x ∷ ds)
kept_skip x cs ds h = by_test (is_null x)
  where
    by_test : (b : Bool) → AllIn (cond (not b) (x ∷ non_null cs) (non_null cs)) (cond (not b)
        (x ∷ non_null ds) (non_null ds))
    by_test true = h
    by_test false = in_skip x (non_null cs) (non_null ds) h

abbrev with_one : Bool → Content → List Content → List Content
with_one b c us = cond (not b) (c ∷ us) us

kept_turned : (x y : Content) (cs : List Content) → KeptIn (x ∷ y ∷ cs) (y ∷ x ∷ cs)
kept_turned x y cs = by_tests (is_null x) (is_null y)
  where
    by_tests : (b d : Bool) → AllIn (with_one b x (with_one d y (non_null cs))) (with_one d y
        (with_one b x (non_null cs)))
    by_tests true d = λ c h. h
    by_tests false true = λ c h. h
    by_tests false false = in_turned x y (non_null cs)

pub kept_in : (cs ds : List Content) → IsPermutation cs ds → KeptIn cs ds
kept_in = along_permutation KeptIn (λ us c h. h) kept_skip kept_turned (λ us vs ws h g c k. g c
    (h c k))

-- ---- the sum

sum_turned : (x y : Content) (cs : List Content) → sum_of (x ∷ y ∷ cs) ≡ sum_of (y ∷ x ∷ cs)
sum_turned x y cs =
    sym (+ℤ_assoc (number_in x) (number_in y) (sum_of cs))
    ∙ ap (λ z. z +ℤ sum_of cs) (+ℤ_comm (number_in x) (number_in y))
    ∙ +ℤ_assoc (number_in y) (number_in x) (sum_of cs)

pub same_sum : (cs ds : List Content) → IsPermutation cs ds → sum_of cs ≡ sum_of ds
same_sum = along_permutation (λ cs ds. sum_of cs ≡ sum_of ds) (λ cs. refl) (λ x cs ds h. ap
    (λ z. number_in x +ℤ z) h) sum_turned (λ us vs ws h g. h ∙ g)
