-- NOTs pushed inward, and the rule that rewrites a NOT by the predicate that results.
use Rattle.std.specs.Prelude.{not}
use Rattle.vortex_model.specs.Content.{Content, null, boolean}
use Rattle.vortex_model_table.specs.Expression.{Expression, literal, compare, both, either, negation, is_null, is_not_null, between, like, Comparison, equal, not_equal, greater, at_least, less, at_most}
use Rattle.vortex_model_table.specs.Truth.{end_of}
use Rattle.vortex_model_table.specs.Rewrite.{boolean_literal, falsifier, satisfier}
use Rattle.vortex_model_rules.specs.Rules.{Rule, of_not, answer_of}

-- the comparison that is true of two values that compare exactly where this one is false
abbrev pub opposite : Comparison → Comparison
opposite equal = not_equal
opposite not_equal = equal
opposite greater = at_most
opposite at_most = greater
opposite at_least = less
opposite less = at_least

abbrev mutual
  -- the predicate with each NOT pushed inward that is only under AND, OR and NOT
  pub pushed_in : Expression → Expression
  pushed_in (negation x) = negated x
  pushed_in (both x y) = both (pushed_in x) (pushed_in y)
  pushed_in (either x y) = either (pushed_in x) (pushed_in y)
  pushed_in e = e

  -- The NOT of a predicate, pushed inward. BETWEEN is the AND of its two comparisons. A NOT of any
  -- other expression stays.
  pub negated : Expression → Expression
  negated (literal l (boolean b)) = boolean_literal (not b)
  negated (compare op x y) = compare (opposite op) x y
  negated (both x y) = either (negated x) (negated y)
  negated (either x y) = both (negated x) (negated y)
  negated (negation x) = pushed_in x
  negated (is_null x) = is_not_null x
  negated (is_not_null x) = is_null x
  negated (between x lo hi lower_strict upper_strict) =
      either (compare (opposite (end_of lower_strict)) lo x)
      (compare (opposite (end_of upper_strict)) x hi)
  negated (like x form is_negated ignores_case) = like x form (not is_negated) ignores_case
  negated e = negation e

-- at a NOT, the built-in proofs of the predicate with its NOTs pushed inward
abbrev pub push_not : Rule
push_not = record {
  root = of_not;
  falsify = λ k e. answer_of (falsifier k (pushed_in e));
  satisfy = λ k e. answer_of (satisfier k (pushed_in e));
}

-- a boolean as it is, and null for any other value
abbrev pub as_truth : Content → Content
as_truth (boolean b) = boolean b
as_truth c = null
