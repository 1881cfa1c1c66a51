-- Merges of honest sets, statistic after statistic.
use Rattle.std.proofs.Common.{◌≡◌, refl, sym, ap, subst, ◌==◌, List, [], ◌∷◌, ◌++◌, append_assoc, map, flat_map, Bool, true, false, not, if◌then◌else◌, Option, Some, None}
use Rattle.std.specs.List.{AllByRecursion}
use Rattle.std.specs.List.Sorted.{IsPermutation}
use Rattle.std.specs.declared.cmp.Ordering.{Ordering}
use Rattle.std.specs.Ordering.{is_le, is_lt}
use Rattle.std.proofs.lemmas.List.{append-nil}
use Rattle.std.proofs.lemmas.List.Elements.{filter-append}
use Rattle.std.proofs.lemmas.List.Sums.{sum_by-append}
use Rattle.vortex_model.specs.Content.{Content, content_of, is_null}
use Rattle.vortex_model.specs.Order.{content_cmp, is_known}
use Rattle.vortex_model_table.specs.Statistics.{non_null, null_count_of, sum_of, in_turn, is_at_most, is_below, IsHonestValue}
use Rattle.vortex_model_laws.proofs.Described.{sum_append}
use Rattle.vortex_stats_bound.specs.Precision.{precision_map}
use Rattle.vortex_stats_expr.specs.declared.stat.Stat.{Stat}
use Rattle.vortex_stats_expr.specs.declared.stat.Stat.TheVariants as stat
use Rattle.vortex_stats_expr.specs.Stats.{number_of_stat, all_stats, is_commutative}
use Rattle.vortex_stats_set.specs.Pairs.{Pairs, known, put, or_nothing}
use Rattle.vortex_stats_set.specs.Merge.{merged, merged_if, merged_in_turn, merged_ordered, merged_unordered, merged_sum, merged_count, sorted_across, sorted_if, stands_before}
use Rattle.vortex_stats_set.specs.Said.{said_number, said_truth}
use Rattle.vortex_stats_laws.specs.Laws.{IsHonestOf, merged_behind}
use Rattle.vortex_stats_laws.proofs.Added.{IsCount, sum_told, count_told, none_told}
use Rattle.vortex_stats_laws.proofs.Bounded.{LowBounds, HighBounds, lows_united, highs_united}
use Rattle.vortex_stats_laws.proofs.Flags.{between_at_most, between_below, constant_told, sorted_told}
use Rattle.vortex_stats_laws.proofs.Told.{Told, AreTold, told_of, honest_of, absent_told, put_told, reordered}

-- what else the merge of a statistic reads of the first side
abbrev Reads : Stat → Pairs → List Content → Type 0
Reads stat.IsConstant zs cs = Told stat.Min (known zs stat.Min) cs
Reads stat.IsSorted zs cs = Told stat.Max (known zs stat.Max) cs
Reads stat.IsStrictSorted zs cs = Told stat.Max (known zs stat.Max) cs
Reads s zs cs = Unit {0}

le_test : (o : Option Ordering) → is_known (stands_before stat.IsSorted) o ≡ is_known is_le o
le_test None = refl
le_test (Some x) = refl

lt_test : (o : Option Ordering) → is_known (stands_before stat.IsStrictSorted) o ≡ is_known is_lt o
lt_test None = refl
lt_test (Some x) = refl

-- ---- one statistic

module _ (ys : Pairs) (cs ds : List Content) (g : AreTold ys ds) where
  values : non_null cs ++ non_null ds ≡ non_null (cs ++ ds)
  values = sym (filter-append (λ c. not (is_null c)) cs ds)

  merged_told : (s : Stat) (zs : Pairs) → Told s (known zs s) cs → Reads s zs cs →
      Told s (or_nothing (merged true s zs ys)) (cs ++ ds)
  merged_told stat.IsConstant zs h r =
      constant_told (known zs stat.IsConstant) (known ys stat.IsConstant) (known zs stat.Min)
      (known ys stat.Min) cs ds h (g stat.IsConstant) r (g stat.Min)
  merged_told stat.IsSorted zs h r =
      subst (λ us. IsHonestValue (said_truth (or_nothing (merged true stat.IsSorted zs ys)))
      (in_turn is_at_most us)) values
      (sorted_told is_at_most between_at_most (known zs stat.IsSorted) (known ys stat.IsSorted)
      (known zs stat.Max) (known ys stat.Min) (non_null cs) (non_null ds)
      h (g stat.IsSorted) r (g stat.Min) (sorted_across stat.IsSorted true)
      (λ a b. ap (λ t. Some (sorted_if t)) (le_test (content_cmp (content_of a) (content_of b))))
      (λ o. refl) (λ a. refl))
  merged_told stat.IsStrictSorted zs h r =
      subst (λ us. IsHonestValue (said_truth (or_nothing (merged true stat.IsStrictSorted zs ys)))
      (in_turn is_below us)) values
      (sorted_told is_below between_below (known zs stat.IsStrictSorted)
      (known ys stat.IsStrictSorted) (known zs stat.Max) (known ys stat.Min) (non_null cs)
      (non_null ds)
      h (g stat.IsStrictSorted) r (g stat.Min) (sorted_across stat.IsStrictSorted true)
      (λ a b. ap (λ t. Some (sorted_if t)) (lt_test (content_cmp (content_of a) (content_of b))))
      (λ o. refl) (λ a. refl))
  merged_told stat.Max zs h r =
      subst (HighBounds (precision_map content_of (or_nothing (merged true stat.Max zs ys)))) values
      (highs_united (known zs stat.Max) (known ys stat.Max) (non_null cs) (non_null ds) h
      (g stat.Max))
  merged_told stat.Min zs h r =
      subst (LowBounds (precision_map content_of (or_nothing (merged true stat.Min zs ys)))) values
      (lows_united (known zs stat.Min) (known ys stat.Min) (non_null cs) (non_null ds) h
      (g stat.Min))
  merged_told stat.Sum zs h r =
      subst (λ z. IsHonestValue (said_number (or_nothing (merged_sum (known zs stat.Sum)
      (known ys stat.Sum)))) z) (sym (sum_append cs ds))
      (sum_told (known zs stat.Sum) (known ys stat.Sum) (sum_of cs) (sum_of ds) h (g stat.Sum))
  merged_told stat.NullCount zs h r =
      subst (IsCount (or_nothing (merged_count (known zs stat.NullCount)
      (known ys stat.NullCount)))) (sym (sum_by-append (λ c. if is_null c then 1 else 0) cs ds))
      (count_told (known zs stat.NullCount) (known ys stat.NullCount) (null_count_of cs)
      (null_count_of ds) h (g stat.NullCount))
  merged_told stat.UncompressedSizeInBytes zs h r = tt
  merged_told stat.NaNCount zs h r = none_told (known zs stat.NaNCount) (known ys stat.NaNCount) h
      (g stat.NaNCount)

  -- without the order of rows, for the rows in any order
  unordered_told : (rows : List Content) → IsPermutation (cs ++ ds) rows →
      (s : Stat) (zs : Pairs) → Told s (known zs s) cs → Reads s zs cs →
      Told s (or_nothing (merged_if false true s zs ys)) rows
  unordered_told rows e s zs h r = by_test (is_commutative s) refl
    where
      by_test : (b : Bool) → is_commutative s ≡ b →
          Told s (or_nothing (if b then merged true s zs ys else None)) rows
      by_test true k = reordered s (or_nothing (merged true s zs ys)) (cs ++ ds) rows e k
          (merged_told s zs h r)
      by_test false k = absent_told s rows

-- ---- all statistics

module _ (ordered : Bool) (ys : Pairs) (cs rows : List Content)
    (step : (s : Stat) (zs : Pairs) → Told s (known zs s) cs → Reads s zs cs →
    Told s (or_nothing (merged_if ordered true s zs ys)) rows) where
  -- the rows that each statistic is about, where these are merged
  abbrev told_rows : List Stat → Stat → List Content
  told_rows [] t = cs
  told_rows (s ∷ ss) t = if number_of_stat s == number_of_stat t then rows else told_rows ss t

  abbrev IsWalked : Pairs → List Stat → Type 0
  IsWalked zs ss = (t : Stat) → Told t (known zs t) (told_rows ss t)

  abbrev next : Pairs → Stat → Pairs
  next zs s = put zs s (merged_if ordered true s zs ys)

  walked : (zs : Pairs) (s : Stat) (ss : List Stat) → Told s (known zs s) cs → Reads s zs cs →
      IsWalked zs ss → IsWalked (next zs s) (s ∷ ss)
  walked zs s ss h r w = put_told zs s (merged_if ordered true s zs ys) (told_rows ss) rows
      (step s zs h r) w

  abbrev flags : Pairs → Pairs
  flags xs = next (next (next xs stat.IsConstant) stat.IsSorted) stat.IsStrictSorted

  abbrev flag_stats : List Stat
  flag_stats = stat.IsStrictSorted ∷ stat.IsSorted ∷ stat.IsConstant ∷ []

  flags_walked : (xs : Pairs) → AreTold xs cs → IsWalked (flags xs) flag_stats
  flags_walked xs h =
      let one : IsWalked (next xs stat.IsConstant) (stat.IsConstant ∷ []) =
      walked xs stat.IsConstant [] (h stat.IsConstant) (h stat.Min) h in
      let two : IsWalked (next (next xs stat.IsConstant) stat.IsSorted)
      (stat.IsSorted ∷ stat.IsConstant ∷ []) =
      walked (next xs stat.IsConstant) stat.IsSorted (stat.IsConstant ∷ []) (one stat.IsSorted)
      (one stat.Max) one in
      walked (next (next xs stat.IsConstant) stat.IsSorted) stat.IsStrictSorted
      (stat.IsSorted ∷ stat.IsConstant ∷ []) (two stat.IsStrictSorted) (two stat.Max) two

  abbrev bounds : Pairs → Pairs
  bounds zs = next (next (next zs stat.Max) stat.Min) stat.Sum

  abbrev bound_stats : List Stat
  bound_stats = stat.Sum ∷ stat.Min ∷ stat.Max ∷ flag_stats

  bounds_walked : (zs : Pairs) → IsWalked zs flag_stats → IsWalked (bounds zs) bound_stats
  bounds_walked zs w =
      let one : IsWalked (next zs stat.Max) (stat.Max ∷ flag_stats) =
      walked zs stat.Max flag_stats (w stat.Max) tt w in
      let two : IsWalked (next (next zs stat.Max) stat.Min) (stat.Min ∷ stat.Max ∷ flag_stats) =
      walked (next zs stat.Max) stat.Min (stat.Max ∷ flag_stats) (one stat.Min) tt one in
      walked (next (next zs stat.Max) stat.Min) stat.Sum (stat.Min ∷ stat.Max ∷ flag_stats)
      (two stat.Sum) tt two

  abbrev counts : Pairs → Pairs
  counts zs = next (next (next zs stat.NullCount) stat.UncompressedSizeInBytes) stat.NaNCount

  abbrev count_stats : List Stat
  count_stats = stat.NaNCount ∷ stat.UncompressedSizeInBytes ∷ stat.NullCount ∷ bound_stats

  counts_walked : (zs : Pairs) → IsWalked zs bound_stats → IsWalked (counts zs) count_stats
  counts_walked zs w =
      let one : IsWalked (next zs stat.NullCount) (stat.NullCount ∷ bound_stats) =
      walked zs stat.NullCount bound_stats (w stat.NullCount) tt w in
      let two : IsWalked (next (next zs stat.NullCount) stat.UncompressedSizeInBytes)
      (stat.UncompressedSizeInBytes ∷ stat.NullCount ∷ bound_stats) =
      walked (next zs stat.NullCount) stat.UncompressedSizeInBytes (stat.NullCount ∷ bound_stats)
      (one stat.UncompressedSizeInBytes) tt one in
      walked (next (next zs stat.NullCount) stat.UncompressedSizeInBytes) stat.NaNCount
      (stat.UncompressedSizeInBytes ∷ stat.NullCount ∷ bound_stats) (two stat.NaNCount) tt two

  all_walked : (zs : Pairs) → IsWalked zs count_stats → AreTold zs rows
  all_walked zs w stat.IsConstant = w stat.IsConstant
  all_walked zs w stat.IsSorted = w stat.IsSorted
  all_walked zs w stat.IsStrictSorted = w stat.IsStrictSorted
  all_walked zs w stat.Max = w stat.Max
  all_walked zs w stat.Min = w stat.Min
  all_walked zs w stat.Sum = w stat.Sum
  all_walked zs w stat.NullCount = w stat.NullCount
  all_walked zs w stat.UncompressedSizeInBytes = w stat.UncompressedSizeInBytes
  all_walked zs w stat.NaNCount = w stat.NaNCount

  walk : (xs : Pairs) → AreTold xs cs → AreTold (merged_in_turn ordered true all_stats xs ys) rows
  walk xs h = all_walked (counts (bounds (flags xs))) (counts_walked (bounds (flags xs))
      (bounds_walked (flags xs) (flags_walked xs h)))

pub merges_honest : (xs ys : Pairs) (cs ds : List Content) → IsHonestOf xs cs → IsHonestOf ys ds →
    IsHonestOf (merged_ordered true xs ys) (cs ++ ds)
merges_honest xs ys cs ds h g =
    honest_of (merged_ordered true xs ys) (cs ++ ds)
    (walk true ys cs (cs ++ ds) (merged_told ys cs ds (told_of ys ds g)) xs (told_of xs cs h))

pub many_honest : (xs : Pairs) (cs : List Content) (others : List (Pairs × List Content)) →
    IsHonestOf xs cs → AllByRecursion (λ e. IsHonestOf e.0 e.1) others →
    IsHonestOf (merged_behind xs (map (λ e. e.0) others)) (cs ++ flat_map (λ e. e.1) others)
many_honest xs cs [] h g = subst (IsHonestOf xs) (sym (append-nil cs)) h
many_honest xs cs (e ∷ es) h g =
    subst (IsHonestOf (merged_behind (merged_ordered true xs e.0) (map (λ e. e.0) es)))
    (append_assoc cs e.1 (flat_map (λ e. e.1) es))
    (many_honest (merged_ordered true xs e.0) (cs ++ e.1) es
    (merges_honest xs e.0 cs e.1 h g.0) g.1)

pub unordered_honest : (xs ys : Pairs) (cs ds rows : List Content) →
    IsPermutation (cs ++ ds) rows → IsHonestOf xs cs → IsHonestOf ys ds →
    IsHonestOf (merged_unordered true xs ys) rows
unordered_honest xs ys cs ds rows e h g =
    honest_of (merged_unordered true xs ys) rows
    (walk false ys cs rows (unordered_told ys cs ds (told_of ys ds g) rows e) xs (told_of xs cs h))
