-- Predicates and proofs whose columns are resolved to positions, with a type at each leaf, and their
-- values.
use Rattle.std.specs.Prelude.{ℕ, ◌+◌, Bool, true, false, not, Option, Some, None, pos}
use Rattle.std.specs.Option.{unwrap_or}
use Rattle.vortex_model.specs.LogicalType.{LogicalType, null_only, boolean_type, integer_type, u64, nullable, non_nullable}
use Rattle.vortex_model.specs.Content.{Content, null, boolean, integer, is_null as is_null_content}
use Rattle.vortex_model.specs.Path.{Names, Positions, positions, type_at, at}
use Rattle.vortex_model_table.specs.Truth.{Given, compared, kleene_and, kleene_or, kleene_not, end_of, liked}
use Rattle.vortex_model_table.specs.Typing.{type_of_aggregate}
use Rattle.vortex_model_table.specs.Expression.{Expression, literal, column, compare, both, either, negation, is_null, is_not_null, is_nan, between, like, row_count, statistic, Comparison, Aggregate}

-- A literal and a column have their type, a column its names too, and a placeholder for a statistic
-- of the values of a bound expression the type of the statistic. `count_of_rows` is the number of
-- rows. Both of the last occur in proofs.
pub data Bound : Type 0 where
  fixed : LogicalType → Content → Bound
  place : Names → Positions → LogicalType → Bound
  test : Comparison → Bound → Bound → Bound
  each : Bound → Bound → Bound
  some : Bound → Bound → Bound
  opposite : Bound → Bound
  null_test : Bound → Bound
  value_test : Bound → Bound
  nan_test : Bound → Bound
  range_test : Bound → Bound → Bound → Bool → Bool → Bound
  match_test : Bound → Bound → Bool → Bool → Bound
  count_of_rows : Bound
  placeholder : Bound → Aggregate → LogicalType → Bound

-- the positions of a column
abbrev pub place_of : Bound → Option Positions
place_of (place xs is k) = Some is
place_of b = None

-- the type of its values
abbrev pub value_type : Bound → LogicalType
value_type (fixed k c) = k
value_type (place xs is k) = k
value_type count_of_rows = integer_type u64 non_nullable
value_type (placeholder x a k) = k
value_type b = boolean_type nullable

-- the expression that was bound
abbrev pub expression_of : Bound → Expression
expression_of (fixed k c) = literal k c
expression_of (place xs is k) = column xs
expression_of (test op x y) = compare op (expression_of x) (expression_of y)
expression_of (each x y) = both (expression_of x) (expression_of y)
expression_of (some x y) = either (expression_of x) (expression_of y)
expression_of (opposite x) = negation (expression_of x)
expression_of (null_test x) = is_null (expression_of x)
expression_of (value_test x) = is_not_null (expression_of x)
expression_of (nan_test x) = is_nan (expression_of x)
expression_of (range_test x lo hi lower_strict upper_strict) =
    between (expression_of x) (expression_of lo) (expression_of hi) lower_strict upper_strict
expression_of (match_test x form negated ignores_case) =
    like (expression_of x) (expression_of form) negated ignores_case
expression_of count_of_rows = row_count
expression_of (placeholder x a k) = statistic (expression_of x) a

-- ---- values

-- the values of columns at positions and of placeholders, and the number of rows
pub record Provided : Type 0 where
  pub columns : Positions → Content
  pub statistics : Bound → Aggregate → Content
  pub rows : ℕ

-- A test for NaN and a LIKE that ignores case have no truth, and are null here.
abbrev pub evaluate_bound : Provided → Bound → Content
evaluate_bound p (fixed k c) = c
evaluate_bound p (place xs is k) = p.columns is
evaluate_bound p (test op x y) = compared op (evaluate_bound p x) (evaluate_bound p y)
evaluate_bound p (each x y) = kleene_and (evaluate_bound p x) (evaluate_bound p y)
evaluate_bound p (some x y) = kleene_or (evaluate_bound p x) (evaluate_bound p y)
evaluate_bound p (opposite x) = kleene_not (evaluate_bound p x)
evaluate_bound p (null_test x) = boolean (is_null_content (evaluate_bound p x))
evaluate_bound p (value_test x) = boolean (not (is_null_content (evaluate_bound p x)))
evaluate_bound p (nan_test x) = null
evaluate_bound p (range_test x lo hi lower_strict upper_strict) =
    kleene_and (compared (end_of lower_strict) (evaluate_bound p lo) (evaluate_bound p x))
    (compared (end_of upper_strict) (evaluate_bound p x) (evaluate_bound p hi))
evaluate_bound p (match_test x form negated true) = null
evaluate_bound p (match_test x form negated false) =
    liked (evaluate_bound p x) (evaluate_bound p form) negated
evaluate_bound p count_of_rows = integer (pos p.rows)
evaluate_bound p (placeholder x a k) = p.statistics x a

-- the columns of one row, where no placeholder is known
abbrev pub in_row : Content → Provided
in_row row = record { columns = at row; statistics = λ x a. null; rows = 1 }

-- the value at a row
abbrev pub bound_value : Bound → Content → Content
bound_value b row = evaluate_bound (in_row row) b

-- ---- binding

-- the column at these positions, and null where there is none
abbrev pub column_at : LogicalType → Names → Option Positions → Bound
column_at k xs None = fixed null_only null
column_at k xs (Some is) = place xs is (unwrap_or (type_at k is) null_only)

-- the type of a placeholder over an expression, and null's where it doesn't take that one's type
abbrev pub placeholder_type : Aggregate → Bound → LogicalType
placeholder_type a x = unwrap_or (type_of_aggregate a (value_type x)) null_only

-- a predicate or a proof over rows of this type, with its columns resolved
abbrev pub bound_of : LogicalType → Expression → Bound
bound_of k (literal l c) = fixed l c
bound_of k (column xs) = column_at k xs (positions k xs)
bound_of k (compare op x y) = test op (bound_of k x) (bound_of k y)
bound_of k (both x y) = each (bound_of k x) (bound_of k y)
bound_of k (either x y) = some (bound_of k x) (bound_of k y)
bound_of k (negation x) = opposite (bound_of k x)
bound_of k (is_null x) = null_test (bound_of k x)
bound_of k (is_not_null x) = value_test (bound_of k x)
bound_of k (is_nan x) = nan_test (bound_of k x)
bound_of k (between x lo hi lower_strict upper_strict) =
    range_test (bound_of k x) (bound_of k lo) (bound_of k hi) lower_strict upper_strict
bound_of k (like x form negated ignores_case) =
    match_test (bound_of k x) (bound_of k form) negated ignores_case
bound_of k row_count = count_of_rows
bound_of k (statistic x a) =
    placeholder (bound_of k x) a (placeholder_type a (bound_of k x))

-- The values of names in rows of a type: of a column that of its positions, and null where it leads
-- nowhere; of a placeholder that of its bound input.
abbrev pub by_names : LogicalType → Provided → Given
by_names k p = record {
  columns = λ xs. evaluate_bound p (column_at k xs (positions k xs));
  placeholders = λ x a. p.statistics (bound_of k x) a;
  rows = p.rows;
}

abbrev pub bound_size : Bound → ℕ
bound_size (test op x y) = bound_size x + bound_size y + 1
bound_size (each x y) = bound_size x + bound_size y + 1
bound_size (some x y) = bound_size x + bound_size y + 1
bound_size (opposite x) = bound_size x + 1
bound_size (null_test x) = bound_size x + 1
bound_size (value_test x) = bound_size x + 1
bound_size (nan_test x) = bound_size x + 1
bound_size (range_test x lo hi s t) = bound_size x + bound_size lo + bound_size hi + 1
bound_size (match_test x form n c) = bound_size x + bound_size form + 1
bound_size (placeholder x a k) = bound_size x + 1
bound_size b = 1
