-- NOT pushed inward in bound predicates, as in the model.
use Rattle.std.specs.Prelude.{Option, Some, None, Bool, not}
use Rattle.vortex_model.specs.LogicalType.{LogicalType}
use Rattle.vortex_model.specs.Content.{Content}
use Rattle.vortex_model_table.specs.Truth.{end_of}
use Rattle.vortex_model_rules.specs.PushNot.{opposite as opposite_comparison}
use Rattle.vortex_stats_bind.specs.Bound.{Bound, fixed, test, each, some, opposite, null_test, value_test, range_test, match_test}
use Rattle.vortex_stats_rules.specs.NotLiterals.{truth_in}
use Rattle.vortex_stats_rules.specs.Table.{fixed_truth}

-- of a truth literal the other one
abbrev pub negated_literal : LogicalType → Content → Option Bool → Bound
negated_literal k c None = opposite (fixed k c)
negated_literal k c (Some b) = fixed_truth (not b)

abbrev mutual
  pub pushed_in : Bound → Bound
  pushed_in (opposite x) = negated x
  pushed_in (each x y) = each (pushed_in x) (pushed_in y)
  pushed_in (some x y) = some (pushed_in x) (pushed_in y)
  pushed_in b = b

  pub negated : Bound → Bound
  negated (fixed k c) = negated_literal k c (truth_in c)
  negated (test op x y) = test (opposite_comparison op) x y
  negated (each x y) = some (negated x) (negated y)
  negated (some x y) = each (negated x) (negated y)
  negated (opposite x) = pushed_in x
  negated (null_test x) = value_test x
  negated (value_test x) = null_test x
  negated (range_test x lo hi lower_strict upper_strict) =
      some (test (opposite_comparison (end_of lower_strict)) lo x)
      (test (opposite_comparison (end_of upper_strict)) x hi)
  negated (match_test x form is_negated ignores_case) =
      match_test x form (not is_negated) ignores_case
  negated b = opposite b
