-- Rows with many more of one value at the start.
use native.Mathlib.Nat.{suc-mul, zero-mul, mul-le-mul_left}
use Rattle.std.proofs.Common.{◌≡◌, refl, sym, ap, ◌∙◌, subst, ℕ, zero, suc, ℤ, pos, neg_ℤ, ◌+◌, ◌*◌, ◌^◌, ◌<◌, ◌≤◌, ◌+ℤ◌, ◌-ℤ◌, List, [], ◌∷◌, ◌++◌, replicate, map, Bool, true, false, if◌then◌else◌, Option, Some, None, option_map, arith}
use Rattle.std.specs.List.{range_with_len}
use Rattle.std.proofs.lemmas.Int.{ints}
use Rattle.std.proofs.lemmas.List.{append-nil}
use Rattle.std.proofs.lemmas.List.FromFn.{length-range_with_len}
use Rattle.std.proofs.lemmas.List.Sums.{sum_by-append}
use Rattle.std.proofs.lemmas.Simd.{splat_is_map}
use Rattle.vortex_model.specs.Content.{Content, null, is_null}
use Rattle.vortex_model_table.specs.Statistics.{is_at_most, least_value, greatest_value, non_null, null_count_of, number_in, sum_of}
use Rattle.vortex_model_table.specs.ZoneLaws.{AllCompare}
use Rattle.vortex_model_laws.proofs.LeafOrder.{least_in_front, greatest_in_front}
use Rattle.vortex_stats_array.specs.declared.running.Running.{Running}
use Rattle.vortex_stats_array.specs.Sums.{sum_in_parts, repeated_sum}
use Rattle.vortex_stats_array.specs.Running.{content_or_null, lesser, greater, in_front, DoCompare, IsSeen}
use Rattle.vortex_stats_array.proofs.InFront.{least_step, greatest_step, kept_in_front, front_compares, rest_compare, no_null_in_front}

-- ---- sums

pub times_above : (n a : ℕ) → pos (n * a) -ℤ pos 0 ≡ repeated_sum n (pos a)
times_above zero a = let none = zero-mul a in omega (arith, ints, none)
times_above (suc n) a = let more = suc-mul n a in let before = times_above n a in omega (arith, ints, more, before)

pub times_below : (n a : ℕ) → pos 0 -ℤ pos (n * a) ≡ repeated_sum n (neg_ℤ (pos a))
times_below zero a = let none = zero-mul a in omega (arith, ints, none)
times_below (suc n) a = let more = suc-mul n a in let before = times_below n a in omega (arith, ints, more, before)

-- the product fits
pub most : (n a : ℕ) → a ≤ 2 ^ 64 → n * a ≤ n * 2 ^ 64
most n a g = mul-le-mul_left n g

pub room : (n a : ℕ) → n < 2 ^ 64 → a ≤ 2 ^ 64 → n * a < 2 ^ 128
room n a h g = let bound = most n a g in omega (arith, bound, h)

pub ruleset times = (times_above, times_below, room, most)

-- ---- values

-- the lesser and the greater of a value and itself
same_either : (b : Bool) (c : Content) → (if b then c else c) ≡ c
same_either true c = refl
same_either false c = refl

lesser_again : (c d : Content) → lesser c (lesser c d) ≡ lesser c d
lesser_again c d = by_test (is_at_most c d) refl
  where
    by_test : (b : Bool) → is_at_most c d ≡ b → lesser c (if b then c else d) ≡ (if b then c else d)
    by_test true e = same_either (is_at_most c c) c
    by_test false e = ap (λ b. if b then c else d) e

greater_again : (c d : Content) → greater c (greater c d) ≡ greater c d
greater_again c d = by_test (is_at_most c d) refl
  where
    by_test : (b : Bool) → is_at_most c d ≡ b → greater c (if b then d else c) ≡ (if b then d else c)
    by_test true e = ap (λ b. if b then d else c) e
    by_test false e = same_either (is_at_most c c) c

-- one more of a value at the start
lesser_stays : (c : Content) (o : Option Content) → lesser c (in_front lesser c o) ≡ in_front lesser c o
lesser_stays c None = same_either (is_at_most c c) c
lesser_stays c (Some d) = lesser_again c d

greater_stays : (c : Content) (o : Option Content) → greater c (in_front greater c o) ≡ in_front greater c o
greater_stays c None = same_either (is_at_most c c) c
greater_stays c (Some d) = greater_again c d

module _ (c : Content) (there : is_null c ≡ false) (cs : List Content) where
  many_compare : (n : ℕ) → DoCompare (replicate n c ++ cs) → DoCompare cs
  many_compare zero h = h
  many_compare (suc n) h = many_compare n (rest_compare c (replicate n c ++ cs) there h)

  least_once_more : (ds : List Content) → DoCompare (c ∷ ds) → least_value (non_null (c ∷ ds)) ≡ Some (in_front lesser c (least_value (non_null ds)))
  least_once_more ds h =
      ap least_value (sym (kept_in_front c ds there)) ∙ least_in_front c (non_null ds) (front_compares c ds there h) ∙ sym (least_step c (least_value (non_null ds)))

  greatest_once_more : (ds : List Content) → DoCompare (c ∷ ds) → greatest_value (non_null (c ∷ ds)) ≡ Some (in_front greater c (greatest_value (non_null ds)))
  greatest_once_more ds h =
      ap greatest_value (sym (kept_in_front c ds there)) ∙ greatest_in_front c (non_null ds) (front_compares c ds there h) ∙ sym (greatest_step c (greatest_value (non_null ds)))

  least_many : (n : ℕ) → DoCompare (replicate (suc n) c ++ cs) → least_value (non_null (replicate (suc n) c ++ cs)) ≡ Some (in_front lesser c (least_value (non_null cs)))
  least_many zero h = least_once_more cs h
  least_many (suc n) h =
      least_once_more (replicate (suc n) c ++ cs) h ∙ ap (λ o. Some (in_front lesser c o)) (least_many n (rest_compare c (replicate (suc n) c ++ cs) there h))
      ∙ ap (λ d. Some d) (lesser_stays c (least_value (non_null cs)))

  greatest_many : (n : ℕ) → DoCompare (replicate (suc n) c ++ cs) → greatest_value (non_null (replicate (suc n) c ++ cs)) ≡ Some (in_front greater c (greatest_value (non_null cs)))
  greatest_many zero h = greatest_once_more cs h
  greatest_many (suc n) h =
      greatest_once_more (replicate (suc n) c ++ cs) h ∙ ap (λ o. Some (in_front greater c o)) (greatest_many n (rest_compare c (replicate (suc n) c ++ cs) there h))
      ∙ ap (λ d. Some d) (greater_stays c (greatest_value (non_null cs)))

  no_null_more : (n : ℕ) → null_count_of cs ≡ null_count_of (replicate n c ++ cs)
  no_null_more zero = refl
  no_null_more (suc n) = no_null_more n ∙ no_null_in_front c (replicate n c ++ cs) there

sum_many : (c : Content) (cs : List Content) (n : ℕ) → repeated_sum n (number_in c) +ℤ sum_of cs ≡ sum_of (replicate n c ++ cs)
sum_many c cs zero = omega (arith, ints)
sum_many c cs (suc n) = let before = sum_many c cs n in omega (arith, ints, before)

nulls_many : (cs : List Content) (n : ℕ) → null_count_of cs + n ≡ null_count_of (replicate n null ++ cs)
nulls_many cs zero = omega arith
nulls_many cs (suc n) =
    let split : null_count_of (null ∷ (replicate n null ++ cs)) ≡ (0 + 1) + null_count_of (replicate n null ++ cs)
    = sum_by-append (λ x. if is_null x then 1 else 0) (null ∷ []) (replicate n null ++ cs) in
    let before = nulls_many cs n in
    omega (arith, split, before)

values_stay : (cs : List Content) (n : ℕ) → non_null cs ≡ non_null (replicate n null ++ cs)
values_stay cs zero = refl
values_stay cs (suc n) = values_stay cs n

no_sum : (cs : List Content) (n : ℕ) → sum_of cs ≡ sum_of (replicate n null ++ cs)
no_sum cs zero = refl
no_sum cs (suc n) = let before = no_sum cs n in omega (arith, ints, before)

only_nulls : (n : ℕ) → [] ≡ non_null (replicate n null)
only_nulls zero = refl
only_nulls (suc n) = only_nulls n

all_null : (n : ℕ) → n ≡ null_count_of (replicate n null)
all_null zero = refl
all_null (suc n) =
    let split : null_count_of (null ∷ replicate n null) ≡ (0 + 1) + null_count_of (replicate n null)
    = sum_by-append (λ x. if is_null x then 1 else 0) (null ∷ []) (replicate n null) in
    let before = all_null n in
    omega (arith, split, before)

none_summed : (n : ℕ) → pos 0 ≡ sum_of (replicate n null)
none_summed zero = refl
none_summed (suc n) = let before = none_summed n in omega (arith, ints, before)

module _ {V : Type 0} (said : V → Content) (old new : Running V) where
  of_value : (v : V) (z : ℤ) (n : ℕ) → is_null (said v) ≡ false →
      option_map said new.least ≡ Some (in_front lesser (said v) (option_map said old.least)) →
      option_map said new.greatest ≡ Some (in_front greater (said v) (option_map said old.greatest)) →
      new.null_count ≡ old.null_count → z ≡ number_in (said v) → sum_in_parts new.sum ≡ repeated_sum (suc n) z +ℤ sum_in_parts old.sum →
      (cs : List Content) → IsSeen said old cs → IsSeen said new (replicate (suc n) (said v) ++ cs)
  of_value v z n there least greatest nulls number sum cs h =
      let c = said v in
      record {
        least = λ compare.
            least ∙ ap (λ l. Some (in_front lesser c l)) (h.least (many_compare c there cs (suc n) compare)) ∙ sym (least_many c there cs n compare);
        greatest = λ compare.
            greatest ∙ ap (λ g. Some (in_front greater c g)) (h.greatest (many_compare c there cs (suc n) compare)) ∙ sym (greatest_many c there cs n compare);
        nulls = nulls ∙ h.nulls ∙ no_null_more c there cs (suc n);
        total = sum ∙ (λ i. repeated_sum (suc n) (number i) +ℤ h.total i) ∙ sum_many c cs (suc n);
      }

  pub value_many : (o : Option V) (v : V) (z : ℤ) (n : ℕ) → o ≡ Some v → is_null (said v) ≡ false →
      option_map said new.least ≡ Some (in_front lesser (said v) (option_map said old.least)) →
      option_map said new.greatest ≡ Some (in_front greater (said v) (option_map said old.greatest)) →
      new.null_count ≡ old.null_count → z ≡ number_in (said v) → sum_in_parts new.sum ≡ repeated_sum n z +ℤ sum_in_parts old.sum → 0 < n →
      (cs : List Content) → IsSeen said old cs → IsSeen said new (replicate n (content_or_null said o) ++ cs)
  value_many o v z zero is there least greatest nulls number sum some cs h = absurd (omega (arith, some))
  value_many o v z (suc n) is there least greatest nulls number sum some cs h =
      subst (λ p. IsSeen said new (replicate (suc n) (content_or_null said p) ++ cs)) (sym is)
      (of_value v z n there least greatest nulls number sum cs h)

  pub null_many : (o : Option V) (n : ℕ) → o ≡ None → option_map said new.least ≡ option_map said old.least →
      option_map said new.greatest ≡ option_map said old.greatest → new.null_count ≡ old.null_count + n →
      sum_in_parts new.sum ≡ sum_in_parts old.sum → (cs : List Content) → IsSeen said old cs → IsSeen said new (replicate n (content_or_null said o) ++ cs)
  null_many o n is least greatest nulls sum cs h =
      subst (λ p. IsSeen said new (replicate n (content_or_null said p) ++ cs)) (sym is) (record {
        least = λ compare. least ∙ h.least (subst AllCompare (sym (values_stay cs n)) compare) ∙ ap least_value (values_stay cs n);
        greatest = λ compare. greatest ∙ h.greatest (subst AllCompare (sym (values_stay cs n)) compare) ∙ ap greatest_value (values_stay cs n);
        nulls = nulls ∙ ap (λ m. m + n) h.nulls ∙ nulls_many cs n;
        total = sum ∙ h.total ∙ no_sum cs n;
      })

-- only nulls
pub nulls_alone : {V : Type 0} (said : V → Content) (new : Running V) (n : ℕ) → new.least ≡ None → new.greatest ≡ None → new.null_count ≡ n →
    sum_in_parts new.sum ≡ pos 0 → IsSeen said new (replicate n null)
nulls_alone said new n least greatest nulls sum = record {
  least = λ compare. ap (option_map said) least ∙ ap least_value (only_nulls n);
  greatest = λ compare. ap (option_map said) greatest ∙ ap greatest_value (only_nulls n);
  nulls = nulls ∙ all_null n;
  total = sum ∙ none_summed n;
}

-- n of one value, by their indices
pub same_rows : (n : ℕ) (c : Content) → replicate n c ++ [] ≡ map (λ i. c) (range_with_len 0 n)
same_rows n c = append-nil (replicate n c) ∙ splat_is_map (range_with_len 0 n) n c (length-range_with_len 0 n)
