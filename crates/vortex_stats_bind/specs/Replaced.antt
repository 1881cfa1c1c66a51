-- Placeholders replaced by what a binder answers.
use Rattle.std.specs.Prelude.{◌≡◌, pos, Option, Some, None}
use Rattle.std.specs.Option.{unwrap_or}
use Rattle.vortex_model.specs.LogicalType.{LogicalType, nullable, with_nullability}
use Rattle.vortex_model.specs.Content.{null, integer}
use Rattle.vortex_model.specs.Path.{Names, Positions}
use Rattle.vortex_model_table.specs.Expression.{Aggregate}
use Rattle.vortex_stats_bind.specs.Bound.{Bound, Provided, fixed, place, test, each, some, opposite, null_test, value_test, nan_test, range_test, match_test, count_of_rows, placeholder, evaluate_bound}

-- what replaces a statistic of the values of an expression, of this type, a column outside
-- placeholders, and the number of rows
pub record Answers : Type 0 where
  pub statistic : Bound → Aggregate → LogicalType → Bound
  pub column : Names → Positions → LogicalType → Bound
  pub rows : Bound

-- null of the type
abbrev pub typed_null : LogicalType → Bound
typed_null k = fixed (with_nullability nullable k) null

-- What a binder answers, and else the expression for missing statistics. Over a table of zones, of
-- which a column has the number of rows of each, the columns of the rows themselves aren't there.
abbrev pub answered : Option Bound → (Bound → Aggregate → Option Bound) → (LogicalType → Bound) →
    Answers
answered None found missing = record {
  statistic = λ x a k. unwrap_or (found x a) (missing k);
  column = place;
  rows = count_of_rows;
}
answered (Some counts) found missing = record {
  statistic = λ x a k. unwrap_or (found x a) (missing k);
  column = λ xs is k. typed_null k;
  rows = counts;
}

-- each placeholder replaced; none in an answer is
abbrev pub replaced : Answers → Bound → Bound
replaced f (place xs is k) = f.column xs is k
replaced f (test op x y) = test op (replaced f x) (replaced f y)
replaced f (each x y) = each (replaced f x) (replaced f y)
replaced f (some x y) = some (replaced f x) (replaced f y)
replaced f (opposite x) = opposite (replaced f x)
replaced f (null_test x) = null_test (replaced f x)
replaced f (value_test x) = value_test (replaced f x)
replaced f (nan_test x) = nan_test (replaced f x)
replaced f (range_test x lo hi lower_strict upper_strict) =
    range_test (replaced f x) (replaced f lo) (replaced f hi) lower_strict upper_strict
replaced f (match_test x form negated ignores_case) =
    match_test (replaced f x) (replaced f form) negated ignores_case
replaced f count_of_rows = f.rows
replaced f (placeholder x a k) = f.statistic x a k
replaced f (fixed k c) = fixed k c

-- ---- the law of binding

-- by what `p` provides, each answer has the value that `q` provides
pub record HasValuesOf (p q : Provided) (f : Answers) : Type 0 where
  pub statistics : (x : Bound) (a : Aggregate) (k : LogicalType) →
      evaluate_bound p (f.statistic x a k) ≡ q.statistics x a
  pub columns : (xs : Names) (is : Positions) (k : LogicalType) →
      evaluate_bound p (f.column xs is k) ≡ q.columns is
  pub rows : evaluate_bound p f.rows ≡ integer (pos q.rows)

-- Then what is bound has by the one the value that the proof has by the other.
abbrev pub BindingKeepsValues : Type 0
BindingKeepsValues = (p q : Provided) (f : Answers) (proof : Bound) → HasValuesOf p q f →
    evaluate_bound p (replaced f proof) ≡ evaluate_bound q proof
