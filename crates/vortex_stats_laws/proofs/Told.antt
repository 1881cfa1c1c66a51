-- The statements of a set about rows, statistic by statistic.
use Rattle.std.proofs.Common.{◌≡◌, refl, sym, ◌∙◌, subst, ◌==◌, List, [], ◌∷◌, Bool, true, false, not, ◌||◌, if◌then◌else◌, Option, Some, None, true≢false}
use Rattle.std.specs.List.{AllByRecursion}
use Rattle.std.specs.List.Sorted.{IsPermutation}
use Rattle.std.proofs.lemmas.Bool.{eq-eqb, false_from_ne_true, not-true}
use Rattle.std.proofs.lemmas.List.Sorted.{IsPermutation-sym, sum_by-IsPermutation}
use Rattle.std.specs.Cmp.{first_so, second_so}
use Rattle.vortex_model.specs.Content.{Content, Raw, raw_boolean, content_of, is_null}
use Rattle.vortex_model_table.specs.Statistics.{Precision, inexact, absent, non_null, null_count_of, sum_of, is_constant, is_sorted, is_strictly_sorted, IsHonestValue}
use Rattle.vortex_stats_bound.specs.Precision.{precision_map}
use Rattle.vortex_stats_expr.specs.declared.stat.Stat.{Stat}
use Rattle.vortex_stats_expr.specs.declared.stat.Stat.TheVariants as stat
use Rattle.vortex_stats_expr.specs.Stats.{number_of_stat, is_commutative}
use Rattle.vortex_stats_set.specs.Sets.{is_of, has_stat, is_set, value_in}
use Rattle.vortex_stats_set.specs.Pairs.{Pairs, known, put, or_nothing}
use Rattle.vortex_stats_set.specs.Said.{said_number, said_truth}
use Rattle.vortex_stats_laws.specs.Laws.{IsHonestOf}
use Rattle.vortex_stats_laws.proofs.Added.{IsCount, IsNone}
use Rattle.vortex_stats_laws.proofs.Bounded.{LowBounds, HighBounds, to_low, from_low, to_high, from_high, low_moved, high_moved}
use Rattle.vortex_stats_laws.proofs.Flags.{are_one, one_constant}
use Rattle.vortex_stats_laws.proofs.Known.{known_put, known_other, same_stat}
use Rattle.vortex_stats_laws.proofs.Reordered.{all_in, kept_in, same_sum}

abbrev pub Told : Stat → Precision Raw → List Content → Type 0
Told stat.IsConstant p cs = IsHonestValue (said_truth p) (is_constant cs)
Told stat.IsSorted p cs = IsHonestValue (said_truth p) (is_sorted cs)
Told stat.IsStrictSorted p cs = IsHonestValue (said_truth p) (is_strictly_sorted cs)
Told stat.Max p cs = HighBounds (precision_map content_of p) (non_null cs)
Told stat.Min p cs = LowBounds (precision_map content_of p) (non_null cs)
Told stat.Sum p cs = IsHonestValue (said_number p) (sum_of cs)
Told stat.NullCount p cs = IsCount p (null_count_of cs)
Told stat.UncompressedSizeInBytes p cs = Unit {0}
Told stat.NaNCount p cs = IsNone p

abbrev pub AreTold : Pairs → List Content → Type 0
AreTold xs cs = (s : Stat) → Told s (known xs s) cs

pub told_of : (xs : Pairs) (cs : List Content) → IsHonestOf xs cs → AreTold xs cs
told_of xs cs h stat.IsConstant = (h.honest).constant
told_of xs cs h stat.IsSorted = (h.honest).sorted
told_of xs cs h stat.IsStrictSorted = (h.honest).strictly_sorted
told_of xs cs h stat.Max = to_high (precision_map content_of (known xs stat.Max)) cs
    (h.honest).greatest
told_of xs cs h stat.Min = to_low (precision_map content_of (known xs stat.Min)) cs (h.honest).least
told_of xs cs h stat.Sum = (h.honest).total
told_of xs cs h stat.NullCount = (h.counted, (h.honest).nulls)
told_of xs cs h stat.UncompressedSizeInBytes = tt
told_of xs cs h stat.NaNCount = (h.honest).nans

pub honest_of : (xs : Pairs) (cs : List Content) → AreTold xs cs → IsHonestOf xs cs
honest_of xs cs h = record {
  counted = (h stat.NullCount).0;
  honest = record {
    least = from_low (precision_map content_of (known xs stat.Min)) cs (h stat.Min);
    greatest = from_high (precision_map content_of (known xs stat.Max)) cs (h stat.Max);
    total = h stat.Sum;
    nulls = (h stat.NullCount).1;
    nans = h stat.NaNCount;
    constant = h stat.IsConstant;
    sorted = h stat.IsSorted;
    strictly_sorted = h stat.IsStrictSorted;
  };
}

-- an absent statistic states nothing
pub absent_told : (s : Stat) (cs : List Content) → Told s absent cs
absent_told stat.IsConstant cs = tt
absent_told stat.IsSorted cs = tt
absent_told stat.IsStrictSorted cs = tt
absent_told stat.Max cs = tt
absent_told stat.Min cs = tt
absent_told stat.Sum cs = tt
absent_told stat.NullCount cs = (refl, tt)
absent_told stat.UncompressedSizeInBytes cs = tt
absent_told stat.NaNCount cs = tt

-- an inexact boolean or sum states nothing
pub truth_guess : (r : Raw) (v : Bool) → IsHonestValue (said_truth (inexact r)) v
truth_guess (raw_boolean b) v = tt
truth_guess r v = tt

-- ---- a statistic that is put into a set

pub put_told : (zs : Pairs) (s : Stat) (o : Option (Precision Raw)) (rows_of : Stat →
    List Content) (rows : List Content) → Told s (or_nothing o) rows →
    ((t : Stat) → Told t (known zs t) (rows_of t)) → (t : Stat) →
    Told t (known (put zs s o) t) (if number_of_stat s == number_of_stat t then rows else
    rows_of t)
put_told zs s o rows_of rows h g t = by_test (number_of_stat s == number_of_stat t) refl
  where
    by_test : (b : Bool) → (number_of_stat s == number_of_stat t) ≡ b →
        Told t (known (put zs s o) t) (if b then rows else rows_of t)
    by_test true e = subst (λ u. Told u (known (put zs s o) u) rows) (same_stat s t e) (subst
        (λ p. Told s p rows) (sym (known_put zs s o)) h)
    by_test false e = subst (λ p. Told t p (rows_of t)) (sym (known_other zs s t o e)) (g t)

pub put_keeps : (zs : Pairs) (s : Stat) (o : Option (Precision Raw)) (cs : List Content) →
    Told s (or_nothing o) cs → AreTold zs cs → AreTold (put zs s o) cs
put_keeps zs s o cs h g t = by_test (number_of_stat s == number_of_stat t) refl
  where
    by_test : (b : Bool) → (number_of_stat s == number_of_stat t) ≡ b →
        Told t (known (put zs s o) t) cs
    by_test true e = subst (λ u. Told u (known (put zs s o) u) cs) (same_stat s t e) (subst
        (λ p. Told s p cs) (sym (known_put zs s o)) h)
    by_test false e = subst (λ p. Told t p cs) (sym (known_other zs s t o e)) (g t)

-- ---- each pair of a set

no_value : (es : Pairs) (s : Stat) → has_stat es s ≡ false → value_in es s ≡ None
no_value [] s h = refl
no_value (e ∷ es) s h = by_test (is_of s e) h (no_value es s)
  where
    by_test : (b : Bool) → (b || has_stat es s) ≡ false → (has_stat es s ≡ false →
        value_in es s ≡ None) → (if b then Some e.1 else value_in es s) ≡ None
    by_test true g k = absurd (true≢false g)
    by_test false g k = k g

pub pairs_told : (ys : Pairs) (cs : List Content) → is_set ys ≡ true → AreTold ys cs →
    AllByRecursion (λ e. Told e.0 e.1 cs) ys
pairs_told [] cs u h = tt
pairs_told (e ∷ es) cs u h = (
  here,
  pairs_told es cs (second_so (not (has_stat es e.0))
      (is_set es) u) behind,
)
  where
    here : Told e.0 e.1 cs
    here =
        subst (λ b. Told e.0 (or_nothing (if b then Some e.1 else value_in es e.0)) cs)
        (eq-eqb (number_of_stat e.0) (number_of_stat e.0) refl) (h e.0)

    none : value_in es e.0 ≡ None
    none = no_value es e.0 (not-true (has_stat es e.0) (first_so (not (has_stat es e.0))
        (is_set es) u))

    behind : AreTold es cs
    behind s = by_test (is_of s e) refl (h s)
      where
        by_test : (b : Bool) → is_of s e ≡ b → Told s (or_nothing
            (if b then Some e.1 else value_in es s)) cs → Told s (or_nothing (value_in es s)) cs
        by_test true k g =
            subst (λ t. Told t (or_nothing (value_in es t)) cs) (same_stat e.0 s k)
            (subst (λ o. Told e.0 (or_nothing o) cs) (sym none) (absent_told e.0 cs))
        by_test false k g = g

-- ---- rows in another order

same_constancy : (cs ds : List Content) → IsPermutation cs ds → is_constant cs ≡ is_constant ds
same_constancy cs ds e = by_test (is_constant cs) refl
  where
    carried : (us vs : List Content) → IsPermutation us vs → is_constant us ≡ true →
        is_constant vs ≡ true
    carried us vs k h = one_constant vs (λ c d f g. let back =
        all_in vs us (IsPermutation-sym us vs k) in are_one us h c d (back c f) (back d g))

    by_test : (b : Bool) → is_constant cs ≡ b → is_constant cs ≡ is_constant ds
    by_test true h = h ∙ sym (carried cs ds e h)
    by_test false h = h ∙ sym (false_from_ne_true (is_constant ds) (λ k. true≢false (sym (carried ds cs
        (IsPermutation-sym cs ds e) k) ∙ h)))

pub reordered : (s : Stat) (p : Precision Raw) (cs ds : List Content) → IsPermutation cs ds →
    is_commutative s ≡ true → Told s p cs → Told s p ds
reordered stat.IsConstant p cs ds e c h = subst (λ b. IsHonestValue (said_truth p) b)
    (same_constancy cs ds e) h
reordered stat.IsSorted p cs ds e c h = absurd (true≢false (sym c))
reordered stat.IsStrictSorted p cs ds e c h = absurd (true≢false (sym c))
reordered stat.Max p cs ds e c h =
    high_moved (precision_map content_of p) (non_null cs) (non_null ds) (kept_in cs ds e)
    (kept_in ds cs (IsPermutation-sym cs ds e)) h
reordered stat.Min p cs ds e c h =
    low_moved (precision_map content_of p) (non_null cs) (non_null ds) (kept_in cs ds e)
    (kept_in ds cs (IsPermutation-sym cs ds e)) h
reordered stat.Sum p cs ds e c h = subst (λ z. IsHonestValue (said_number p) z) (same_sum cs ds e) h
reordered stat.NullCount p cs ds e c h = subst (IsCount p) (sym (sum_by-IsPermutation
    (λ x. if is_null x then 1 else 0) cs ds e)) h
reordered stat.UncompressedSizeInBytes p cs ds e c h = tt
reordered stat.NaNCount p cs ds e c h = h
