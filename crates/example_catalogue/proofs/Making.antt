-- Sets that are made of others.
use Rattle.std.proofs.Common.{◌≡◌, refl, sym, ◌∙◌, ap, subst, ℕ, pos, negsuc, List, [], ◌∷◌, ◌++◌, map, length, All, Contains, Bool, true, false, ◌==◌, if◌then◌else◌, Option, Some, None, arith, is_some}
use Rattle.std.specs.Option.{option_map_or}
use Rattle.std.specs.List.Sorted.{IsPermutation}
use Rattle.std.proofs.lemmas.List.{map-append}
use Rattle.std.proofs.lemmas.List.Elements.{All-nil, All-cons, All-append, All-map, All-weaker, All-contains}
use Rattle.std.proofs.lemmas.List.Sorted.{IsPermutation-map, length_permutation}
use Rattle.vortex_model.specs.LogicalType.{LogicalType, null_only, u64, stored}
use Rattle.vortex_model.specs.Content.{Content, Raw, raw_number, content_of}
use Rattle.std.specs.Cmp.{first_so, second_so}
use Rattle.vortex_model.specs.Valid.{IsContent, valid, in_range}
use Rattle.vortex_model.specs.Order.{content_cmp}
use Rattle.vortex_model.proofs.Contents.{said}
use Rattle.vortex_model.proofs.Tests.{has_so}
use Rattle.vortex_model_table.specs.Statistics.{Precision, exact, inexact, absent}
use Rattle.vortex_scalar_ops.specs.Equality.{has_variant}
use Rattle.vortex_scalar_ops.proofs.Compared.{type_compares}
use Rattle.vortex_scalar_value.specs.declared.scalar_value.ScalarValue.{ScalarValue}
use Rattle.vortex_stats_bound.specs.Precision.{precision_map, raw_precision}
use Rattle.vortex_stats_bound.specs.declared.precision.Precision as declared
use Rattle.vortex_stats_expr.specs.declared.stat.Stat.{Stat}
use Rattle.vortex_stats_expr.specs.declared.stat.Stat.TheVariants as stat
use Rattle.vortex_stats_expr.specs.Stats.{number_of_stat, number_type, bound_type}
use Rattle.vortex_stats_set.specs.Sets.{value_in}
use Rattle.vortex_stats_set.specs.Known.{raw_pairs}
use Rattle.vortex_stats_set.specs.Pairs.{Pairs, known, or_nothing}
use Rattle.vortex_stats_set.specs.Merge.{merged_unordered, merged_count}
use Rattle.vortex_stats_set.specs.Said.{said_count}
use Rattle.vortex_stats_set.specs.Valid.{is_known_of, are_valid_for}
use Rattle.example_catalogue.specs.Bounds.{IsFirst, stands, total, counted}
use Rattle.example_catalogue.specs.Made.{least_in, greatest_in, nulls_in, IsTyped, IsMadeOf, IsAnswerOf, AreAlike, answered}
use Rattle.example_catalogue.proofs.Counts.{total_of_both, same_total, said_again, Fits, total_of_one}
use Rattle.example_catalogue.proofs.Firsts.{Compares, turned_cmp, low_itself, high_itself, lowest_of_both, highest_of_both, same_lowest, same_highest}
use Rattle.example_catalogue.proofs.Known.{same_stat}
use Rattle.example_catalogue.proofs.Merged.{nulls_are, least_is, greatest_is}
use Rattle.example_catalogue.proofs.Pairwise.{Held}

-- ---- sets that are valid for a type

pub valid_typed : (k : LogicalType) (xs : List (Stat × declared.Precision ScalarValue)) →
    are_valid_for k xs ≡ true → IsTyped k (raw_pairs xs)
valid_typed k [] h s = refl
valid_typed k (e ∷ es) h s = by_test (number_of_stat e.0 == number_of_stat s) refl
    (valid_typed k es (second_so (is_known_of k e.0 (raw_precision e.1)) (are_valid_for k es) h) s)
  where
    here : is_known_of k e.0 (raw_precision e.1) ≡ true
    here = first_so (is_known_of k e.0 (raw_precision e.1)) (are_valid_for k es) h

    by_test : (b : Bool) → (number_of_stat e.0 == number_of_stat s) ≡ b →
        is_known_of k s (known (raw_pairs es) s) ≡ true →
        is_known_of k s (or_nothing (if b then Some (raw_precision e.1) else value_in (raw_pairs es) s)) ≡ true
    by_test true f rest = subst (λ t. is_known_of k t (raw_precision e.1) ≡ true) (same_stat e.0 s f) here
    by_test false f rest = rest

-- ---- values of a type

abbrev IsOfType : LogicalType → Precision Content → Type 0
IsOfType k (exact c) = IsContent k c
IsOfType k (inexact c) = IsContent k c
IsOfType k absent = Unit {0}

of_bound : (k : LogicalType) (r : Raw) → option_map_or (λ l. valid l r) (bound_type k) false ≡ true → valid k r ≡ true
of_bound null_only r h = absurd (cc (h))
of_bound k r h = h

as_content : (k : LogicalType) (r : Raw) → option_map_or (λ l. valid l r) (bound_type k) false ≡ true → IsContent k (content_of r)
as_content k r h = said (stored k) r (has_so (stored k) r (of_bound k r h))

low_typed : (k : LogicalType) (p : Precision Raw) → is_known_of k stat.Min p ≡ true → IsOfType k (precision_map content_of p)
low_typed k (exact r) h = as_content k r h
low_typed k (inexact r) h = as_content k r h
low_typed k absent h = tt

high_typed : (k : LogicalType) (p : Precision Raw) → is_known_of k stat.Max p ≡ true → IsOfType k (precision_map content_of p)
high_typed k (exact r) h = as_content k r h
high_typed k (inexact r) h = as_content k r h
high_typed k absent h = tt

module _ (k : LogicalType) (plain : has_variant k ≡ false) where
  compare : (c d : Content) → IsContent k c → IsContent k d → is_some (content_cmp c d) ≡ true
  compare c d h g = type_compares k k c d refl plain h g

  low_compare : (p q : Precision Content) → IsOfType k p → IsOfType k q → Compares content_cmp p q
  low_compare (exact a) (exact b) h g = compare a b h g
  low_compare (exact a) (inexact b) h g = compare a b h g
  low_compare (inexact a) (exact b) h g = compare a b h g
  low_compare (inexact a) (inexact b) h g = compare a b h g
  low_compare absent q h g = tt
  low_compare (exact a) absent h g = tt
  low_compare (inexact a) absent h g = tt

  high_compare : (p q : Precision Content) → IsOfType k p → IsOfType k q → Compares turned_cmp p q
  high_compare (exact a) (exact b) h g = compare b a g h
  high_compare (exact a) (inexact b) h g = compare b a g h
  high_compare (inexact a) (exact b) h g = compare b a g h
  high_compare (inexact a) (inexact b) h g = compare b a g h
  high_compare absent q h g = tt
  high_compare (exact a) absent h g = tt
  high_compare (inexact a) absent h g = tt

-- ---- counts

raw_count : (r : Raw) → valid number_type r ≡ true → (n : ℕ) × (r ≡ raw_number u64 (pos n)) × (in_range u64 (pos n) ≡ true)
raw_count (raw_number u64 (pos n)) h = (n, refl, h)
raw_count (raw_number u64 (negsuc n)) h = absurd (cc (h))
raw_count r h = absurd (cc (h))

abbrev IsSharp : Precision Raw → Type 0
IsSharp p = (p ≡ counted (said_count p)) × Fits (said_count p)

count_typed : (k : LogicalType) (p : Precision Raw) → is_known_of k stat.NullCount p ≡ true → IsSharp p
count_typed k (exact r) h = let c = raw_count r h in subst (λ x. IsSharp (exact x)) (sym c.1) (refl, c.2)
count_typed k (inexact r) h = let c = raw_count r h in subst (λ x. IsSharp (inexact x)) (sym c.1) (refl, c.2)
count_typed k absent h = (refl, tt)

-- ---- a set alone

alone_first : {X : Type 0} (P : X → Type 0) (p : X) → P p → Contains (p ∷ []) p × All P (p ∷ [])
alone_first P p h = ((0, omega arith, refl), All-cons P p [] h (All-nil P))

pub made_of_one : (k : LogicalType) (xs : Pairs) → has_variant k ≡ false → IsTyped k xs → IsMadeOf k xs (xs ∷ [])
made_of_one k xs plain h =
    let low : IsOfType k (least_in xs) = low_typed k (known xs stat.Min) (h stat.Min) in
    let high : IsOfType k (greatest_in xs) = high_typed k (known xs stat.Max) (h stat.Max) in
    let sharp : IsSharp (known xs stat.NullCount) = count_typed k (known xs stat.NullCount) (h stat.NullCount) in
    record {
      typed = All-cons (IsTyped k) xs [] h (All-nil (IsTyped k));
      least = alone_first (λ q. stands content_cmp (least_in xs) q ≡ true) (least_in xs) (low_itself (least_in xs) (low_compare k plain (least_in xs) (least_in xs) low low));
      greatest = alone_first (λ q. stands turned_cmp (greatest_in xs) q ≡ true) (greatest_in xs) (high_itself (greatest_in xs) (high_compare k plain (greatest_in xs) (greatest_in xs) high high));
      nulls = sharp.0 ∙ ap counted (sym (total_of_one (nulls_in xs) sharp.1));
    }

-- ---- the merge of two

all_low : (k : LogicalType) (sets : List Pairs) → All (IsTyped k) sets → All (IsOfType k) (map least_in sets)
all_low k sets h = All-map (IsOfType k) least_in sets (All-weaker (IsTyped k) (λ xs. IsOfType k (least_in xs)) (λ xs t. low_typed k (known xs stat.Min) (t stat.Min)) sets h)

all_high : (k : LogicalType) (sets : List Pairs) → All (IsTyped k) sets → All (IsOfType k) (map greatest_in sets)
all_high k sets h = All-map (IsOfType k) greatest_in sets (All-weaker (IsTyped k) (λ xs. IsOfType k (greatest_in xs)) (λ xs t. high_typed k (known xs stat.Max) (t stat.Max)) sets h)

pub made_of_both : (k : LogicalType) → has_variant k ≡ false → (xs ys : Pairs) (us vs : List Pairs) →
    IsMadeOf k xs us → IsMadeOf k ys vs → IsMadeOf k (merged_unordered true xs ys) (us ++ vs)
made_of_both k plain xs ys us vs h g =
    let low_x : IsOfType k (least_in xs) = All-contains (IsOfType k) (map least_in us) (least_in xs) (all_low k us h.typed) h.least.0 in
    let low_y : IsOfType k (least_in ys) = All-contains (IsOfType k) (map least_in vs) (least_in ys) (all_low k vs g.typed) g.least.0 in
    let high_x : IsOfType k (greatest_in xs) = All-contains (IsOfType k) (map greatest_in us) (greatest_in xs) (all_high k us h.typed) h.greatest.0 in
    let high_y : IsOfType k (greatest_in ys) = All-contains (IsOfType k) (map greatest_in vs) (greatest_in ys) (all_high k vs g.typed) g.greatest.0 in
    record {
      typed = All-append (IsTyped k) us vs h.typed g.typed;
      least = subst (λ ps. IsFirst content_cmp ps (least_in (merged_unordered true xs ys))) (sym (map-append least_in us vs))
          (subst (IsFirst content_cmp (map least_in us ++ map least_in vs)) (sym (least_is xs ys))
          (lowest_of_both (map least_in us) (map least_in vs) (least_in xs) (least_in ys) h.least g.least (low_compare k plain (least_in xs) (least_in ys) low_x low_y)));
      greatest = subst (λ ps. IsFirst turned_cmp ps (greatest_in (merged_unordered true xs ys))) (sym (map-append greatest_in us vs))
          (subst (IsFirst turned_cmp (map greatest_in us ++ map greatest_in vs)) (sym (greatest_is xs ys))
          (highest_of_both (map greatest_in us) (map greatest_in vs) (greatest_in xs) (greatest_in ys) h.greatest g.greatest (high_compare k plain (greatest_in xs) (greatest_in ys) high_x high_y)));
      nulls = nulls_are xs ys
          ∙ (λ i. or_nothing (merged_count (h.nulls i) (g.nulls i)))
          ∙ total_of_both (map nulls_in us) (map nulls_in vs)
          ∙ ap (λ ps. counted (total ps)) (sym (map-append nulls_in us vs));
    }

-- ---- two that are made of the same

pub alike : (k l : LogicalType) (xs ys : Pairs) (us vs : List Pairs) → IsPermutation us vs → IsMadeOf k xs us → IsMadeOf l ys vs → AreAlike xs ys
alike k l xs ys us vs order h g = record {
  least = same_lowest (map least_in us) (map least_in vs) (least_in xs) (least_in ys) (IsPermutation-map least_in us vs order) h.least g.least;
  greatest = same_highest (map greatest_in us) (map greatest_in vs) (greatest_in xs) (greatest_in ys) (IsPermutation-map greatest_in us vs order) h.greatest g.greatest;
  nulls = ap said_count h.nulls ∙ said_again (total (map nulls_in us))
      ∙ same_total (map nulls_in us) (map nulls_in vs) (IsPermutation-map nulls_in us vs order)
      ∙ sym (ap said_count g.nulls ∙ said_again (total (map nulls_in vs)));
}

pub answers_alike : (k l : LogicalType) (xs ys : Pairs) (us vs : List Pairs) → IsPermutation us vs → IsAnswerOf k xs us → IsAnswerOf l ys vs → AreAlike xs ys
answers_alike k l xs ys [] [] order h g = let same : xs ≡ ys = h ∙ sym g in record {
  least = ap least_in same;
  greatest = ap greatest_in same;
  nulls = ap nulls_in same;
}
answers_alike k l xs ys [] (b ∷ vs) order h g = let e : length (b ∷ vs) ≡ 0 = length_permutation [] (b ∷ vs) order in absurd (cc (e))
answers_alike k l xs ys (a ∷ us) [] order h g = let e : 0 ≡ length (a ∷ us) = length_permutation (a ∷ us) [] order in absurd (cc (e))
answers_alike k l xs ys (a ∷ us) (b ∷ vs) order h g = alike k l xs ys (a ∷ us) (b ∷ vs) order h g

-- ---- what a catalogue answers

no_sets : (k : LogicalType) (xs : Pairs) → IsMadeOf k xs [] → ⊥
no_sets k xs h = let c = h.least.0 in let l = c.1 in absurd (omega (arith, l))

pub held_answer : (k : LogicalType) (plain : has_variant k ≡ false) (m : Option Pairs) (sets : List Pairs) →
    Held (IsMadeOf k) (made_of_both k plain) m sets → IsAnswerOf k (answered m) sets
held_answer k plain None [] h = refl
held_answer k plain None (s ∷ sets) h = absurd (cc (h))
held_answer k plain (Some xs) [] h = absurd (no_sets k xs h)
held_answer k plain (Some xs) (s ∷ sets) h = h
