-- A table of zones, what it answers for statistics, and when it is honest.
use Rattle.std.specs.Prelude.{◌≡◌, ◌⊎◌, ℕ, pos, List, [], ◌∷◌, Option, Some, None, Bool, true, false, not, length, slice_index_or, if◌then◌else◌}
use Rattle.std.specs.List.{AllByRecursion}
use Rattle.vortex_model.specs.LogicalType.{LogicalType, integer_type, u64, nullable, non_nullable, with_nullability}
use Rattle.vortex_model.specs.Content.{Content, null, integer}
use Rattle.vortex_model.specs.Path.{Positions, at, type_at}
use Rattle.vortex_model.specs.Kept.{is_leaf}
use Rattle.vortex_model.specs.Valid.{IsContent}
use Rattle.vortex_model_table.specs.Expression.{Expression, Aggregate, min, max, null_count}
use Rattle.vortex_model_table.specs.Statistics.{IsNotAbove, non_null, null_count_of}
use Rattle.vortex_model_table.specs.Truth.{is_true, selects}
use Rattle.vortex_model_table.specs.ZoneMap.{values_at}
use Rattle.vortex_model_rules.specs.Rules.{Answer, proof}
use Rattle.vortex_stats_bind.specs.Bound.{Bound, place, bound_of, bound_value}
use Rattle.vortex_stats_bind.specs.Replaced.{Answers, answered, replaced, typed_null}

-- ---- answers

abbrev pub row_counts : Bound
row_counts = place [] (0 ∷ []) (integer_type u64 non_nullable)

-- of the column at this path, whose values are of this type
abbrev pub column_answer : Positions → LogicalType → Aggregate → Option Bound
column_answer is k min = Some (place [] (1 ∷ is) (with_nullability nullable k))
column_answer is k max = Some (place [] (2 ∷ is) (with_nullability nullable k))
column_answer is k null_count = Some (place [] (3 ∷ is) (integer_type u64 nullable))
column_answer is k a = None

-- of leaf columns alone
abbrev pub zone_answers : Bound → Aggregate → Option Bound
zone_answers (place xs is k) a = if is_leaf k then column_answer is k a else None
zone_answers b a = None

abbrev pub the_answers : Answers
the_answers = answered (Some row_counts) zone_answers (λ k. typed_null k)

-- ---- honesty

-- null, or not above any of the values that aren't null
abbrev pub IsLower : Content → List Content → Type 0
IsLower c values = (c ≡ null) ⊎ AllByRecursion (IsNotAbove c) (non_null values)

-- null, or not below any
abbrev pub IsUpper : Content → List Content → Type 0
IsUpper c values = (c ≡ null) ⊎ AllByRecursion (λ v. IsNotAbove v c) (non_null values)

-- null, or how many are null
abbrev pub IsNullCount : Content → List Content → Type 0
IsNullCount c values = (c ≡ null) ⊎ (c ≡ integer (pos (null_count_of values)))

-- a zone's row in the table is honest of its rows, which are of the type, and of each leaf column
pub record IsHonestOf (k : LogicalType) (zone : Content) (rows : List Content) : Type 0 where
  pub typed : AllByRecursion (IsContent k) rows
  pub counted : at zone (0 ∷ []) ≡ integer (pos (length rows))
  pub lower : (is : Positions) (u : LogicalType) → type_at k is ≡ Some u → is_leaf u ≡ true →
      IsLower (at zone (1 ∷ is)) (values_at is rows)
  pub upper : (is : Positions) (u : LogicalType) → type_at k is ≡ Some u → is_leaf u ≡ true →
      IsUpper (at zone (2 ∷ is)) (values_at is rows)
  pub nulls : (is : Positions) (u : LogicalType) → type_at k is ≡ Some u → is_leaf u ≡ true →
      IsNullCount (at zone (3 ∷ is)) (values_at is rows)

-- ---- the theorem

-- whether a zone is read, by the predicate's falsifier: unless that, bound to the table, is true
abbrev pub is_read : LogicalType → Answer → Content → Bool
is_read k (proof p) zone = not (is_true (bound_value (replaced the_answers (bound_of k p)) zone))
is_read k a zone = true

-- A zone that isn't read, of whose rows its row in the table is honest, holds no selected row.
abbrev pub LeavesNoRowOut : LogicalType → Expression → List Content → List Bool → Type 0
LeavesNoRowOut k e zones read = (i : ℕ) (rows : List Content) →
    IsHonestOf k (slice_index_or zones i null) rows → slice_index_or read i true ≡ false →
    AllByRecursion (λ row. selects k e row ≡ false) rows
