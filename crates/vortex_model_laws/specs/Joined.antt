-- Statements of the laws of a group's sum and constancy, and of what the wide class includes.
use Rattle.std.specs.Prelude.{◌≡◌, ℕ, List, map, flat_map, true}
use Rattle.std.specs.List.{AllByRecursion}
use Rattle.vortex_model.specs.LogicalType.{LogicalType}
use Rattle.vortex_model.specs.Content.{Content}
use Rattle.vortex_model.specs.Valid.{IsContent}
use Rattle.vortex_model.specs.Kept.{is_leaf}
use Rattle.vortex_model_table.specs.Expression.{Expression}
use Rattle.vortex_model_table.specs.Statistics.{sum_of}
use Rattle.vortex_model_table.specs.ZoneMap.{zone_of, IsGroupTotal, IsGroupConstancy, Joins, all_joined, made_by}
use Rattle.vortex_model_table.specs.Class.{columns_of, all_distinct, is_single_use, is_wide_tree, is_wide}

-- The total that joins of chunks' zone maps make is the sum over all rows or is absent; it is known
-- where the sum of each run of neighbouring chunks fits.
abbrev pub JoinsGiveTheTotal : Type 0
JoinsGiveTheTotal = (k : LogicalType) (L : ℕ) (chunks : List (List Content)) (joins : Joins) →
    all_joined joins ≡ map (zone_of k L) chunks →
    IsGroupTotal k (map sum_of chunks) (made_by k joins).total

-- The constancy that joins make is that of all rows or is absent; it is known where the chunks show
-- it.
abbrev pub JoinsGiveTheConstancy : Type 0
JoinsGiveTheConstancy = (k : LogicalType) (L : ℕ) (chunks : List (List Content)) (joins : Joins) →
    is_leaf k ≡ true → AllByRecursion (λ chunk. AllByRecursion (IsContent k) chunk) chunks →
    all_joined joins ≡ map (zone_of k L) chunks →
    IsGroupConstancy (flat_map (λ chunk. chunk) chunks) (map (zone_of k L) chunks)
    (made_by k joins).constant

-- comparisons under AND and OR in which no column occurs twice are of the wide class
abbrev pub SingleUseTreesAreWide : Type 0
SingleUseTreesAreWide = (e : Expression) → is_single_use e ≡ true → is_wide e ≡ true

-- each wide tree in which no column occurs twice is of the wide class
abbrev pub TreesOfDistinctColumnsAreWide : Type 0
TreesOfDistinctColumnsAreWide = (e : Expression) → is_wide_tree e ≡ true →
    all_distinct (columns_of e) ≡ true → is_wide e ≡ true
