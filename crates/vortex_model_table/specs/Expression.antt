-- Predicates and the proofs made of them: one tree for both.
use Rattle.std.specs.Prelude.{Bool, true, false, ◌||◌}
use Rattle.vortex_model.specs.LogicalType.{LogicalType}
use Rattle.vortex_model.specs.Content.{Content}
use Rattle.vortex_model.specs.Valid.{IsContent}
use Rattle.vortex_model.specs.Path.{Names}

-- the six comparisons
pub data Comparison : Type 0 where
  equal not_equal greater at_least less at_most : Comparison

-- the statistic of an expression's values that a placeholder asks for
pub data Aggregate : Type 0 where
  min max sum null_count nan_count size min_max all_null all_non_null all_nan
      all_non_nan : Aggregate

-- A column is a path of names; the empty one is the row itself. The flags of `between` make its
-- lower and its upper end strict, those of `like` negate it and ignore case. Only proofs have
-- `row_count` and the placeholder `statistic`.
pub data Expression : Type 0 where
  literal : LogicalType → Content → Expression
  column : Names → Expression
  compare : Comparison → Expression → Expression → Expression
  both : Expression → Expression → Expression
  either : Expression → Expression → Expression
  negation : Expression → Expression
  is_null : Expression → Expression
  is_not_null : Expression → Expression
  is_nan : Expression → Expression
  between : Expression → Expression → Expression → Bool → Bool → Expression
  like : Expression → Expression → Bool → Bool → Expression
  row_count : Expression
  statistic : Expression → Aggregate → Expression

-- a column occurs outside of placeholders
abbrev pub reads_columns : Expression → Bool
reads_columns (literal k c) = false
reads_columns (column xs) = true
reads_columns (compare op x y) = reads_columns x || reads_columns y
reads_columns (both x y) = reads_columns x || reads_columns y
reads_columns (either x y) = reads_columns x || reads_columns y
reads_columns (negation x) = reads_columns x
reads_columns (is_null x) = reads_columns x
reads_columns (is_not_null x) = reads_columns x
reads_columns (is_nan x) = reads_columns x
reads_columns (between x lo hi lower_strict upper_strict) =
    reads_columns x || reads_columns lo || reads_columns hi
reads_columns (like x form negated ignores_case) = reads_columns x || reads_columns form
reads_columns row_count = false
reads_columns (statistic x a) = false

-- each literal's content is one of its type
abbrev pub HasFormedLiterals : Expression → Type 0
HasFormedLiterals (literal k c) = IsContent k c
HasFormedLiterals (column xs) = Unit {0}
HasFormedLiterals (compare op x y) = HasFormedLiterals x × HasFormedLiterals y
HasFormedLiterals (both x y) = HasFormedLiterals x × HasFormedLiterals y
HasFormedLiterals (either x y) = HasFormedLiterals x × HasFormedLiterals y
HasFormedLiterals (negation x) = HasFormedLiterals x
HasFormedLiterals (is_null x) = HasFormedLiterals x
HasFormedLiterals (is_not_null x) = HasFormedLiterals x
HasFormedLiterals (is_nan x) = HasFormedLiterals x
HasFormedLiterals (between x lo hi lower_strict upper_strict) =
    HasFormedLiterals x × HasFormedLiterals lo × HasFormedLiterals hi
HasFormedLiterals (like x form negated ignores_case) = HasFormedLiterals x × HasFormedLiterals form
HasFormedLiterals row_count = Unit {0}
HasFormedLiterals (statistic x a) = HasFormedLiterals x
