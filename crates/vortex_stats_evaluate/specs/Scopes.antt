-- The values of columns and placeholders where expressions are evaluated.
use Rattle.std.specs.Prelude.{◌≡◌, ℕ, List, [], ◌∷◌, ◌++◌, Option, Some, None, false, if◌then◌else◌, is_some, option_map, option_and_then}
use Rattle.vortex_model.specs.LogicalType.{LogicalType}
use Rattle.vortex_model.specs.Content.{Content, null}
use Rattle.vortex_model.specs.Path.{Names, Positions, positions, at, eq_positions, type_of_column, column as column_value}
use Rattle.vortex_model_table.specs.Expression.{Expression, column, Aggregate}
use Rattle.vortex_model_table.specs.Statistics.{placeholder_value}
use Rattle.vortex_model_table.specs.Truth.{Given}
use Rattle.vortex_model_table.specs.Typing.{type_of_aggregate}
use Rattle.vortex_dtype_core.specs.View.{type_of}
use Rattle.vortex_scalar_value.specs.declared.scalar_value.ScalarValue.{ScalarValue}
use Rattle.vortex_stats_bind.specs.Bound.{Bound, Provided, fixed, place}
use Rattle.vortex_stats_bound.specs.declared.precision.Precision as known
use Rattle.vortex_stats_set.specs.Known.{raw_pairs}
use Rattle.vortex_stats_set.specs.Said.{statistics_in}
use Rattle.vortex_stats_set.specs.Valid.{are_valid_for}
use Rattle.vortex_stats_expr.specs.declared.error.StatsError.{StatsError}
use Rattle.vortex_stats_expr.specs.declared.error.StatsError.TheVariants as error
use Rattle.vortex_stats_expr.specs.declared.stat.Stat.{Stat}
use Rattle.vortex_stats_evaluate.specs.declared.column.ColumnStats.{ColumnStats}

-- ---- statistics by path

-- a set of statistics
abbrev pub Set : Type 0
Set = List (Stat × known.Precision ScalarValue)

-- the statistics are of the column at a path of names, which can have them
pub record IsOf (k : LogicalType) (xs : Names) (set : Set) (c : ColumnStats) : Type 0 where
  pub path : positions k xs ≡ Some c.path.items
  pub kind : type_of_column k xs ≡ Some (type_of c.dtype)
  pub stats : c.stats ≡ set

-- the statistics are added, after those of other columns
abbrev pub IsAdded : LogicalType → Names → Set → List ColumnStats → List ColumnStats → Type 0
IsAdded k xs set old new = (c : ColumnStats) × IsOf k xs set c × (new ≡ old ++ c ∷ [])

-- the path leads to no column, or to one that can't have them
abbrev pub IsScopeFault : LogicalType → Names → Set → StatsError → Type 0
IsScopeFault k xs set error.UnknownColumn = type_of_column k xs ≡ None
IsScopeFault k xs set error.InvalidStat =
    (l : LogicalType) × (type_of_column k xs ≡ Some l) × (are_valid_for l set ≡ false)
IsScopeFault k xs set e = ⊥

-- the first that are of the column at these positions
abbrev pub stats_at : List ColumnStats → Positions → Option ColumnStats
stats_at [] is = None
stats_at (c ∷ cs) is = if eq_positions c.path.items is then Some c else stats_at cs is

-- ---- placeholders

-- a placeholder over a column, where the function takes the column's type
abbrev pub told_of : ColumnStats → ℕ → Aggregate → Content
told_of c rows a =
    if is_some (type_of_aggregate a (type_of c.dtype))
    then placeholder_value a (statistics_in (raw_pairs c.stats)) rows
    else null

abbrev pub told_in : Option ColumnStats → ℕ → Aggregate → Content
told_in None rows a = null
told_in (Some c) rows a = told_of c rows a

-- the value of a placeholder: of a column what its statistics show, and null of all else
abbrev pub told_by : List ColumnStats → ℕ → Bound → Aggregate → Content
told_by known rows (place xs is k) a = told_in (stats_at known is) rows a
told_by known rows b a = null

-- what answers it: a literal of that, of the statistic's type
abbrev pub answer_of : ColumnStats → ℕ → Aggregate → Option Bound
answer_of c rows a =
    option_map (λ l. fixed l (placeholder_value a (statistics_in (raw_pairs c.stats)) rows))
    (type_of_aggregate a (type_of c.dtype))

abbrev pub answers_by : List ColumnStats → ℕ → Bound → Aggregate → Option Bound
answers_by known rows (place xs is k) a =
    option_and_then (λ c. answer_of c rows a) (stats_at known is)
answers_by known rows b a = None

-- ---- where expressions are evaluated, by positions

-- at a row
abbrev pub at_row : List ColumnStats → ℕ → Content → Provided
at_row known rows row =
    record { columns = at row; statistics = told_by known rows; rows = rows }

-- over rows of which nothing but this is known
abbrev pub over_rows : List ColumnStats → ℕ → Provided
over_rows known rows =
    record { columns = λ is. null; statistics = told_by known rows; rows = rows }

-- ---- and by names

abbrev pub told_at : List ColumnStats → ℕ → Option Positions → Aggregate → Content
told_at known rows None a = null
told_at known rows (Some is) a = told_in (stats_at known is) rows a

-- the value of a placeholder: of a column what the statistics at its path show
abbrev pub told : LogicalType → List ColumnStats → ℕ → Expression → Aggregate → Content
told k known rows (column xs) a = told_at known rows (positions k xs) a
told k known rows e a = null

abbrev pub given_at : LogicalType → List ColumnStats → ℕ → Content → Given
given_at k known rows row = record {
  columns = λ xs. column_value k xs row;
  placeholders = told k known rows;
  rows = rows;
}

abbrev pub given_over : LogicalType → List ColumnStats → ℕ → Given
given_over k known rows =
    record { columns = λ xs. null; placeholders = told k known rows; rows = rows }
