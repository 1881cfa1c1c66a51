-- Whether bound expressions have a truth, and why one is no proof.
use Rattle.std.specs.Prelude.{ℕ, List, Bool, true, false, not, ◌&&◌, ◌||◌, Option, Some, None, if◌then◌else◌}
use Rattle.std.specs.Option.{option_or}
use Rattle.vortex_model.specs.LogicalType.{LogicalType}
use Rattle.vortex_model.specs.Content.{text}
use Rattle.vortex_model_table.specs.Expression.{Expression, column, compare, both, either, negation, is_null, is_not_null, is_nan, between, like, statistic}
use Rattle.vortex_model_table.specs.Like.{has_backslash}
use Rattle.vortex_model_table.specs.Truth.{has_truth as truth_of, is_free_of_backslash as is_free}
use Rattle.vortex_model_table.specs.Typing.{is_float, is_of_floats as floats}
use Rattle.vortex_stats_expr.specs.declared.error.StatsError.{StatsError}
use Rattle.vortex_stats_expr.specs.declared.error.StatsError.TheVariants as error
use Rattle.vortex_stats_bind.specs.Bound.{Bound, fixed, place, test, each, some, opposite, null_test, value_test, nan_test, range_test, match_test, placeholder, value_type}

abbrev pub is_of_floats : Bound → Bool
is_of_floats x = is_float (value_type x)

abbrev pub is_literal : Bound → Bool
is_literal (fixed k c) = true
is_literal b = false

-- the string, where it is a literal one
abbrev pub text_in : Bound → Option (List ℕ)
text_in (fixed k (text bs)) = Some bs
text_in b = None

-- it is no literal string with a backslash
abbrev pub is_free_of_backslash : Bound → Bool
is_free_of_backslash (fixed k (text form)) = not (has_backslash form)
is_free_of_backslash b = true

-- nothing in it compares floats, tests for NaN, or is a LIKE that ignores case or whose pattern
-- holds a backslash
abbrev pub has_truth : Bound → Bool
has_truth (test op x y) =
    not (is_of_floats x || is_of_floats y) && (has_truth x && has_truth y)
has_truth (each x y) = has_truth x && has_truth y
has_truth (some x y) = has_truth x && has_truth y
has_truth (opposite x) = has_truth x
has_truth (null_test x) = has_truth x
has_truth (value_test x) = has_truth x
has_truth (nan_test x) = false
has_truth (range_test x lo hi lower_strict upper_strict) =
    not (is_of_floats x || is_of_floats lo || is_of_floats hi) &&
    (has_truth x && (has_truth lo && has_truth hi))
has_truth (match_test x form negated ignores_case) =
    not ignores_case && is_free_of_backslash form && (has_truth x && has_truth form)
has_truth (placeholder x a k) = has_truth x
has_truth b = true

-- it reads a column other than in a placeholder
abbrev pub reads_columns : Bound → Bool
reads_columns (place xs is k) = true
reads_columns (test op x y) = reads_columns x || reads_columns y
reads_columns (each x y) = reads_columns x || reads_columns y
reads_columns (some x y) = reads_columns x || reads_columns y
reads_columns (opposite x) = reads_columns x
reads_columns (null_test x) = reads_columns x
reads_columns (value_test x) = reads_columns x
reads_columns (nan_test x) = reads_columns x
reads_columns (range_test x lo hi lower_strict upper_strict) =
    reads_columns x || reads_columns lo || reads_columns hi
reads_columns (match_test x form negated ignores_case) = reads_columns x || reads_columns form
reads_columns b = false

-- a fault where a part has no truth
abbrev pub unless_truth : Bool → Option StatsError
unless_truth b = if b then None else Some error.NotEvaluable

-- The first fault by which it is no proof, children before their parent, left before right: a column
-- outside placeholders, or a part that has no truth.
abbrev pub first_fault : Bound → Option StatsError
first_fault (place xs is k) = Some error.RuleFault
first_fault (test op x y) =
    option_or (first_fault x) (option_or (first_fault y)
    (unless_truth (not (is_of_floats x || is_of_floats y))))
first_fault (each x y) = option_or (first_fault x) (first_fault y)
first_fault (some x y) = option_or (first_fault x) (first_fault y)
first_fault (opposite x) = first_fault x
first_fault (null_test x) = first_fault x
first_fault (value_test x) = first_fault x
first_fault (nan_test x) = option_or (first_fault x) (unless_truth false)
first_fault (range_test x lo hi lower_strict upper_strict) =
    option_or (first_fault x) (option_or (option_or (first_fault lo) (first_fault hi))
    (unless_truth (not (is_of_floats x || is_of_floats lo || is_of_floats hi))))
first_fault (match_test x form negated ignores_case) =
    option_or (first_fault x) (option_or (first_fault form)
    (unless_truth (not ignores_case && is_free_of_backslash form)))
first_fault (placeholder x a k) = unless_truth (has_truth x)
first_fault b = None

-- the first fault of an expression over rows of this type
abbrev pub first_fault_of : LogicalType → Expression → Option StatsError
first_fault_of k (column xs) = Some error.RuleFault
first_fault_of k (compare op x y) =
    option_or (first_fault_of k x) (option_or (first_fault_of k y)
    (unless_truth (not (floats k x || floats k y))))
first_fault_of k (both x y) = option_or (first_fault_of k x) (first_fault_of k y)
first_fault_of k (either x y) = option_or (first_fault_of k x) (first_fault_of k y)
first_fault_of k (negation x) = first_fault_of k x
first_fault_of k (is_null x) = first_fault_of k x
first_fault_of k (is_not_null x) = first_fault_of k x
first_fault_of k (is_nan x) = option_or (first_fault_of k x) (unless_truth false)
first_fault_of k (between x lo hi lower_strict upper_strict) =
    option_or (first_fault_of k x) (option_or (option_or (first_fault_of k lo) (first_fault_of k hi))
    (unless_truth (not (floats k x || floats k lo || floats k hi))))
first_fault_of k (like x form negated ignores_case) =
    option_or (first_fault_of k x) (option_or (first_fault_of k form)
    (unless_truth (not ignores_case && is_free form)))
first_fault_of k (statistic x a) = unless_truth (truth_of k x)
first_fault_of k e = None
