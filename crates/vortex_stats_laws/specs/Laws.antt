-- Merges and intersections of honest sets of statistics are honest.
use Rattle.std.specs.Prelude.{◌≡◌, List, [], ◌∷◌, ◌++◌, map, flat_map, Bool, true}
use Rattle.std.specs.List.{AllByRecursion}
use Rattle.std.specs.List.Sorted.{IsPermutation}
use Rattle.vortex_model.specs.LogicalType.{LogicalType}
use Rattle.vortex_model.specs.Content.{Content}
use Rattle.vortex_model_table.specs.Statistics.{IsHonest}
use Rattle.vortex_stats_bound.specs.Typed.{is_precision_of}
use Rattle.vortex_stats_bound.specs.declared.precision.Precision as declared
use Rattle.vortex_scalar_value.specs.declared.scalar_value.ScalarValue.{ScalarValue}
use Rattle.vortex_stats_expr.specs.declared.stat.Stat.{Stat}
use Rattle.vortex_stats_expr.specs.Stats.{number_type}
use Rattle.vortex_stats_expr.specs.declared.stat.Stat.TheVariants as stat
use Rattle.vortex_stats_set.specs.Sets.{is_set}
use Rattle.vortex_stats_set.specs.Pairs.{Pairs, known}
use Rattle.vortex_stats_set.specs.Known.{raw_pairs}
use Rattle.vortex_stats_set.specs.Said.{statistics_in}
use Rattle.vortex_stats_set.specs.Valid.{are_valid_for}
use Rattle.vortex_stats_set.specs.Merge.{merged_ordered, merged_unordered}
use Rattle.vortex_stats_set.specs.Combine.{combined_in_turn}

-- ---- honest sets

-- The null count of the set is a natural number.
abbrev pub CountsNulls : Pairs → Type 0
CountsNulls xs = is_precision_of number_type (known xs stat.NullCount) ≡ true

-- The set is honest of the rows. A negative null count would be absent, but would be added in a
-- merge.
pub record IsHonestOf (xs : Pairs) (cs : List Content) : Type 0 where
  pub counted : CountsNulls xs
  pub honest : IsHonest (statistics_in xs) cs

-- ---- laws, for rows of any type

-- The null count of sets that are valid for a column is a natural number.
abbrev pub ValidSetsCountNulls : Type 0
ValidSetsCountNulls = (k : LogicalType) (xs : List (Stat × declared.Precision ScalarValue)) →
    are_valid_for k xs ≡ true → CountsNulls (raw_pairs xs)

abbrev pub MergesAreHonest : Type 0
MergesAreHonest = (xs ys : Pairs) (cs ds : List Content) →
    IsHonestOf xs cs → IsHonestOf ys ds → IsHonestOf (merged_ordered true xs ys) (cs ++ ds)

-- the sets of further rows merged one after another
abbrev pub merged_behind : Pairs → List Pairs → Pairs
merged_behind xs [] = xs
merged_behind xs (ys ∷ more) = merged_behind (merged_ordered true xs ys) more

-- the merge of any number of sets, each honest of its rows, is honest of all rows
abbrev pub MergesOfManyAreHonest : Type 0
MergesOfManyAreHonest = (xs : Pairs) (cs : List Content) (others : List (Pairs × List Content)) →
    IsHonestOf xs cs → AllByRecursion (λ e. IsHonestOf e.0 e.1) others →
    IsHonestOf (merged_behind xs (map (λ e. e.0) others)) (cs ++ flat_map (λ e. e.1) others)

-- the rows of both, in any order
abbrev pub UnorderedMergesAreHonest : Type 0
UnorderedMergesAreHonest = (xs ys : Pairs) (cs ds rows : List Content) →
    IsPermutation (cs ++ ds) rows → IsHonestOf xs cs → IsHonestOf ys ds →
    IsHonestOf (merged_unordered true xs ys) rows

-- The combination stops at a refused statistic. In a list with a statistic twice the second one
-- could be anything.
abbrev pub CombinedSetsAreHonest : Type 0
CombinedSetsAreHonest = (one : Bool) (xs ys : Pairs) (cs : List Content) → is_set ys ≡ true →
    IsHonestOf xs cs → IsHonestOf ys cs → IsHonestOf (combined_in_turn one xs ys).0 cs
