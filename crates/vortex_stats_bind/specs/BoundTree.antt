-- The tree of a node of a bound expression, whose children are seen as theirs.
use Rattle.vortex_dtype_core.specs.View.{type_of}
use Rattle.vortex_scalar_core.specs.Scalar.{scalar_type, scalar_content}
use Rattle.vortex_stats_bind.specs.declared.bound.BoundNode.{BoundNode}
use Rattle.vortex_stats_bind.specs.declared.bound.BoundNode.TheVariants.{Literal, Column, Compare, And, Or, Not, IsNull, IsNotNull, IsNan, Between, Like, RowCount, Stat}
use Rattle.vortex_stats_bind.specs.Bound.{Bound, fixed, place, test, each, some, opposite, null_test, value_test, nan_test, range_test, match_test, count_of_rows, placeholder}
use Rattle.vortex_stats_expr.specs.Tree.{comparison_of, is_strict}
use Rattle.vortex_stats_expr.specs.Aggregate.{aggregate_of}

abbrev pub bound_tree : BoundNode → Bound
bound_tree (Literal s) = fixed (scalar_type s) (scalar_content s)
bound_tree (Column c) = place c.names c.positions.items (type_of c.dtype)
bound_tree (Compare o x y) = test (comparison_of o) x.value y.value
bound_tree (And x y) = each x.value y.value
bound_tree (Or x y) = some x.value y.value
bound_tree (Not x) = opposite x.value
bound_tree (IsNull x) = null_test x.value
bound_tree (IsNotNull x) = value_test x.value
bound_tree (IsNan x) = nan_test x.value
bound_tree (Between x lo hi o) =
    range_test x.value lo.value hi.value (is_strict o.lower_strict) (is_strict o.upper_strict)
bound_tree (Like x form o) = match_test x.value form.value o.negated o.case_insensitive
bound_tree RowCount = count_of_rows
bound_tree (Stat f x k) = placeholder x.value (aggregate_of f) (type_of k)
