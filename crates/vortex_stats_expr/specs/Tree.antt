-- The model's operators, options and aggregates of those in code, the path of a column and the
-- function of a root.
use Rattle.std.specs.Prelude.{Option, Some, None, Bool, true, false}
use Rattle.vortex_model.specs.Path.{Names}
use Rattle.vortex_model_table.specs.Expression.{Expression, literal, column, compare, both, either, negation, is_null, is_not_null, is_nan, between, like, row_count, statistic, Comparison, equal, not_equal, greater, at_least, less, at_most}
use Rattle.vortex_stats_expr.specs.declared.operator.Operator.{Operator}
use Rattle.vortex_stats_expr.specs.declared.operator.Operator.TheVariants as operator
use Rattle.vortex_stats_expr.specs.declared.operator.Comparison as comparison
use Rattle.vortex_stats_expr.specs.declared.operator.Comparison.TheVariants as comparing
use Rattle.vortex_stats_expr.specs.declared.options.StrictComparison.{StrictComparison}
use Rattle.vortex_stats_expr.specs.declared.options.StrictComparison.TheVariants as end
use Rattle.vortex_stats_expr.specs.declared.scalar_fn.ScalarFnId.{ScalarFnId}
use Rattle.vortex_stats_expr.specs.declared.scalar_fn.ScalarFnId.TheVariants as function

abbrev pub comparison_of : comparison.Comparison → Comparison
comparison_of comparing.Eq = equal
comparison_of comparing.NotEq = not_equal
comparison_of comparing.Gt = greater
comparison_of comparing.Gte = at_least
comparison_of comparing.Lt = less
comparison_of comparing.Lte = at_most

-- two expressions by an operator
abbrev pub combined : Operator → Expression → Expression → Expression
combined operator.Eq x y = compare equal x y
combined operator.NotEq x y = compare not_equal x y
combined operator.Gt x y = compare greater x y
combined operator.Gte x y = compare at_least x y
combined operator.Lt x y = compare less x y
combined operator.Lte x y = compare at_most x y
combined operator.And x y = both x y
combined operator.Or x y = either x y

-- the path of a column
abbrev pub path_of : Expression → Option Names
path_of (column xs) = Some xs
path_of e = None

-- an end of BETWEEN is outside the range
abbrev pub is_strict : StrictComparison → Bool
is_strict end.Strict = true
is_strict end.NonStrict = false

-- the function of the root
abbrev pub scalar_fn_of : Expression → ScalarFnId
scalar_fn_of (literal k c) = function.Literal
scalar_fn_of (column xs) = function.Column
scalar_fn_of (compare o x y) = function.Binary
scalar_fn_of (both x y) = function.Binary
scalar_fn_of (either x y) = function.Binary
scalar_fn_of (negation x) = function.Not
scalar_fn_of (is_null x) = function.IsNull
scalar_fn_of (is_not_null x) = function.IsNotNull
scalar_fn_of (is_nan x) = function.IsNan
scalar_fn_of (between x lo hi lower_strict upper_strict) = function.Between
scalar_fn_of (like x form negated ignores_case) = function.Like
scalar_fn_of row_count = function.RowCount
scalar_fn_of (statistic x a) = function.Stat
