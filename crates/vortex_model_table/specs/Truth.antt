-- The value of a predicate at a row.
use Rattle.std.specs.Prelude.{◌≡◌, ℕ, pos, Some, None, Bool, true, false, not, ◌&&◌, ◌||◌, if◌then◌else◌}
use Rattle.std.specs.Ordering.{is_eq, is_ne, is_gt, is_ge, is_lt, is_le}
use Rattle.std.specs.declared.cmp.Ordering.{Ordering}
use Rattle.vortex_model.specs.LogicalType.{LogicalType}
use Rattle.vortex_model.specs.Content.{Content, null, boolean, integer, text, is_null as is_null_content}
use Rattle.vortex_model.specs.Path.{Names, column as column_value}
use Rattle.vortex_model.specs.Order.{content_cmp}
use Rattle.vortex_model_table.specs.Like.{is_like, has_backslash}
use Rattle.vortex_model_table.specs.Typing.{is_of_floats}
use Rattle.vortex_model_table.specs.Expression.{Expression, literal, column, compare, both, either, negation, is_null, is_not_null, is_nan, between, like, row_count, statistic, Comparison, equal, not_equal, greater, at_least, less, at_most, Aggregate}

-- Kleene's connectives. What is not a boolean counts as null.
abbrev pub kleene_and : Content → Content → Content
kleene_and (boolean false) d = boolean false
kleene_and c (boolean false) = boolean false
kleene_and (boolean true) (boolean true) = boolean true
kleene_and c d = null

abbrev pub kleene_or : Content → Content → Content
kleene_or (boolean true) d = boolean true
kleene_or c (boolean true) = boolean true
kleene_or (boolean false) (boolean false) = boolean false
kleene_or c d = null

abbrev pub kleene_not : Content → Content
kleene_not (boolean b) = boolean (not b)
kleene_not c = null

-- the orders that a comparison passes
abbrev pub test_of : Comparison → Ordering → Bool
test_of equal = is_eq
test_of not_equal = is_ne
test_of greater = is_gt
test_of at_least = is_ge
test_of less = is_lt
test_of at_most = is_le

-- a comparison with null, or of values that don't compare, is null
abbrev pub compared : Comparison → Content → Content → Content
compared op c d = if is_null_content c || is_null_content d then null
    else (elim (content_cmp c d) [ None ↦ null | Some o ↦ boolean (test_of op o) ])

-- the comparison at an end of BETWEEN, strict or inclusive
abbrev pub end_of : Bool → Comparison
end_of strict = if strict then less else at_most

-- LIKE of strings, and null where the pattern has a backslash
abbrev pub liked : Content → Content → Bool → Content
liked (text value) (text form) negated =
    if has_backslash form then null
    else (if negated then boolean (not (is_like form value)) else boolean (is_like form value))
liked c d negated = null

-- the values of columns and placeholders, and the number of rows
pub record Given : Type 0 where
  pub columns : Names → Content
  pub placeholders : Expression → Aggregate → Content
  pub rows : ℕ

-- The value of an expression. A NaN test, and a LIKE that ignores case, is null here: neither has a
-- truth.
abbrev pub evaluate : Given → Expression → Content
evaluate g (literal k c) = c
evaluate g (column xs) = g.columns xs
evaluate g (compare op x y) = compared op (evaluate g x) (evaluate g y)
evaluate g (both x y) = kleene_and (evaluate g x) (evaluate g y)
evaluate g (either x y) = kleene_or (evaluate g x) (evaluate g y)
evaluate g (negation x) = kleene_not (evaluate g x)
evaluate g (is_null x) = boolean (is_null_content (evaluate g x))
evaluate g (is_not_null x) = boolean (not (is_null_content (evaluate g x)))
evaluate g (is_nan x) = null
evaluate g (between x lo hi lower_strict upper_strict) =
    kleene_and (compared (end_of lower_strict) (evaluate g lo) (evaluate g x))
    (compared (end_of upper_strict) (evaluate g x) (evaluate g hi))
evaluate g (like x form negated true) = null
evaluate g (like x form negated false) = liked (evaluate g x) (evaluate g form) negated
evaluate g row_count = integer (pos g.rows)
evaluate g (statistic x a) = g.placeholders x a

-- the columns of a row, and null for each placeholder
abbrev pub of_row : LogicalType → Content → Given
of_row k row =
    record { columns = λ xs. column_value k xs row; placeholders = λ x a. null; rows = 1 }

-- the value of an expression at a row of this type
abbrev pub value_at : LogicalType → Expression → Content → Content
value_at k e row = evaluate (of_row k row) e

-- neither false nor null
abbrev pub is_true : Content → Bool
is_true (boolean b) = b
is_true c = false

-- the predicate is true of the row
abbrev pub selects : LogicalType → Expression → Content → Bool
selects k e row = is_true (value_at k e row)

abbrev pub Satisfies : LogicalType → Expression → Content → Type 0
Satisfies k e row = value_at k e row ≡ boolean true

-- ---- predicates that have a truth

-- A literal pattern without a backslash, or any other pattern: that is judged at each row, by
-- `liked`.
abbrev pub is_free_of_backslash : Expression → Bool
is_free_of_backslash (literal k (text form)) = not (has_backslash form)
is_free_of_backslash e = true

-- The predicate has a truth: it has no comparison of floats, NaN test, LIKE that ignores case, or
-- LIKE whose literal pattern has a backslash.
abbrev pub has_truth : LogicalType → Expression → Bool
has_truth k (literal l c) = true
has_truth k (column xs) = true
has_truth k (compare op x y) =
    not (is_of_floats k x || is_of_floats k y) && (has_truth k x && has_truth k y)
has_truth k (both x y) = has_truth k x && has_truth k y
has_truth k (either x y) = has_truth k x && has_truth k y
has_truth k (negation x) = has_truth k x
has_truth k (is_null x) = has_truth k x
has_truth k (is_not_null x) = has_truth k x
has_truth k (is_nan x) = false
has_truth k (between x lo hi lower_strict upper_strict) =
    not (is_of_floats k x || is_of_floats k lo || is_of_floats k hi) &&
    (has_truth k x && (has_truth k lo && has_truth k hi))
has_truth k (like x form negated ignores_case) =
    not ignores_case && is_free_of_backslash form && (has_truth k x && has_truth k form)
has_truth k row_count = true
has_truth k (statistic x a) = has_truth k x

abbrev pub HasTruth : LogicalType → Expression → Type 0
HasTruth k e = has_truth k e ≡ true
