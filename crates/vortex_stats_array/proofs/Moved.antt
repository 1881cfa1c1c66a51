-- Rows in another order have the same least and greatest value, null count and sum.
use Rattle.std.proofs.Common.{◌≡◌, refl, sym, ◌∙◌, ◌+◌, ℕ, ℤ, pos, negsuc, ◌-ℤ◌, List, [], ◌∷◌, Bool, true, if◌then◌else◌, Option, Some, None, arith}
use Rattle.std.specs.List.{AllByRecursion, sum_by}
use Rattle.std.specs.List.Sorted.{IsPermutation}
use Rattle.std.proofs.lemmas.Int.{ints}
use Rattle.std.proofs.lemmas.List.Sums.{sum_by-cons}
use Rattle.std.proofs.lemmas.List.Sorted.{IsPermutation-sym, Contains-permutation, sum_by-IsPermutation}
use Rattle.vortex_model.specs.Content.{Content, is_null}
use Rattle.vortex_model_table.specs.Statistics.{non_null, null_count_of, least_value, greatest_value, is_at_most, number_in, sum_of}
use Rattle.vortex_model_table.specs.ZoneLaws.{AllCompare}
use Rattle.vortex_model_laws.proofs.Honesty.{Among, each_among, all_among}
use Rattle.vortex_model_laws.proofs.JoinOrder.{Compare}
use Rattle.vortex_stats_array.specs.declared.running.Running.{Running}
use Rattle.vortex_stats_array.specs.Running.{IsSeen}
use Rattle.vortex_stats_array.proofs.Constancy.{kept, value_in}
use Rattle.vortex_model_laws.proofs.Leasts.{is_at_least, IsEnd, picked, picked_end, end_picked, at_most_both, at_least_both, among_contains, contains_among}

-- ---- values among others

module _ (R : Content → Content → Bool) (antisym : (c d : Content) → R c d ≡ true → R d c ≡ true → c ≡ d) (xs ys : List Content)
    (to : (v : Content) → Among v xs → Among v ys) (from : (v : Content) → Among v ys → Among v xs) where
  end_to : (v : Content) → IsEnd R v xs → IsEnd R v ys
  end_to v h = (to v h.0, each_among (λ c. R v c ≡ true) ys (λ c a. all_among (λ d. R v d ≡ true) c xs h.1 (from c a)))

  end_from : (v : Content) → IsEnd R v ys → IsEnd R v xs
  end_from v h = (from v h.0, each_among (λ c. R v c ≡ true) xs (λ c a. all_among (λ d. R v d ≡ true) c ys h.1 (to c a)))

  same_picked : picked R xs ≡ picked R ys
  same_picked = by_picked (picked R xs) (picked R ys) refl refl
    where
      by_picked : (o p : Option Content) → picked R xs ≡ o → picked R ys ≡ p → o ≡ p
      by_picked (Some v) p e f = sym (end_picked R antisym v ys (end_to v (picked_end R v xs e))) ∙ f
      by_picked None (Some w) e f = sym e ∙ end_picked R antisym w xs (end_from w (picked_end R w ys f))
      by_picked None None e f = refl

-- ---- sums of positive numbers and of negative ones

abbrev above : ℤ → ℕ
above (pos n) = n
above (negsuc n) = 0

abbrev below : ℤ → ℕ
below (pos n) = 0
below (negsuc n) = n + 1

in_two : (z : ℤ) → z ≡ pos (above z) -ℤ pos (below z)
in_two (pos n) = let same : pos n ≡ pos n -ℤ pos 0 = omega (arith, ints) in same
in_two (negsuc n) = let same : negsuc n ≡ pos 0 -ℤ pos (n + 1) = omega (arith, ints) in same

sum_in_two : (cs : List Content) → sum_of cs ≡ pos (sum_by (λ c. above (number_in c)) cs) -ℤ pos (sum_by (λ c. below (number_in c)) cs)
sum_in_two [] = refl
sum_in_two (c ∷ cs) =
    let first = in_two (number_in c) in let rest = sum_in_two cs in
    let more = sum_by-cons (λ c. above (number_in c)) c cs in let less = sum_by-cons (λ c. below (number_in c)) c cs in
    omega (arith, ints, first, rest, more, less)

-- ---- rows in another order

module _ (xs ys : List Content) (moved : IsPermutation xs ys) where
  value_to : (v : Content) → Among v (non_null xs) → Among v (non_null ys)
  value_to v a = let h = value_in v xs a in kept v ys (contains_among v ys (Contains-permutation xs ys v moved (among_contains v xs h.0))) h.1

  value_from : (v : Content) → Among v (non_null ys) → Among v (non_null xs)
  value_from v a = let h = value_in v ys a in kept v xs (contains_among v xs (Contains-permutation ys xs v (IsPermutation-sym xs ys moved) (among_contains v ys h.0))) h.1

  pub least_moved : least_value (non_null xs) ≡ least_value (non_null ys)
  least_moved = same_picked is_at_most at_most_both (non_null xs) (non_null ys) value_to value_from

  pub greatest_moved : greatest_value (non_null xs) ≡ greatest_value (non_null ys)
  greatest_moved = same_picked is_at_least at_least_both (non_null xs) (non_null ys) value_to value_from

  pub compare_moved : AllCompare (non_null ys) → AllCompare (non_null xs)
  compare_moved h = each_among (λ c. AllByRecursion (Compare c) (non_null xs)) (non_null xs) (λ c a.
      each_among (Compare c) (non_null xs) (λ d b.
      all_among (Compare c) d (non_null ys) (all_among (λ c. AllByRecursion (Compare c) (non_null ys)) c (non_null ys) h (value_to c a)) (value_to d b)))

  pub nulls_moved : null_count_of xs ≡ null_count_of ys
  nulls_moved = sym (sum_by-IsPermutation (λ c. if is_null c then 1 else 0) xs ys moved)

  pub sum_moved : sum_of xs ≡ sum_of ys
  sum_moved =
      let up = sum_by-IsPermutation (λ c. above (number_in c)) xs ys moved in let down = sum_by-IsPermutation (λ c. below (number_in c)) xs ys moved in
      sum_in_two xs ∙ (λ i. pos (sym up i) -ℤ pos (sym down i)) ∙ sym (sum_in_two ys)

-- statistics so far of rows in one order are those of rows in another
pub seen_moved : {V : Type 0} (said : V → Content) (r : Running V) (xs ys : List Content) → IsPermutation xs ys → IsSeen said r xs → IsSeen said r ys
seen_moved said r xs ys moved h = record {
  least = λ compare. h.least (compare_moved xs ys moved compare) ∙ least_moved xs ys moved;
  greatest = λ compare. h.greatest (compare_moved xs ys moved compare) ∙ greatest_moved xs ys moved;
  nulls = h.nulls ∙ nulls_moved xs ys moved;
  total = h.total ∙ sum_moved xs ys moved;
}
