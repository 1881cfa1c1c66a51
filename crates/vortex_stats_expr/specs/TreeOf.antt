-- The tree of a node, whose children are seen as theirs.
use Rattle.vortex_model_table.specs.Expression.{Expression, literal, column, compare, both, either, negation, is_null, is_not_null, is_nan, between, like, row_count, statistic}
use Rattle.vortex_scalar_core.specs.Scalar.{scalar_type, scalar_content}
use Rattle.vortex_stats_expr.specs.declared.expression.Node.{Node}
use Rattle.vortex_stats_expr.specs.declared.expression.Node.TheVariants.{Literal, Column, Compare, And, Or, Not, IsNull, IsNotNull, IsNan, Between, Like, RowCount, Stat}
use Rattle.vortex_stats_expr.specs.Tree.{comparison_of, is_strict}
use Rattle.vortex_stats_expr.specs.Aggregate.{aggregate_of}

abbrev pub tree_of : Node → Expression
tree_of (Literal s) = literal (scalar_type s) (scalar_content s)
tree_of (Column path) = column path
tree_of (Compare o x y) = compare (comparison_of o) x.value y.value
tree_of (And x y) = both x.value y.value
tree_of (Or x y) = either x.value y.value
tree_of (Not x) = negation x.value
tree_of (IsNull x) = is_null x.value
tree_of (IsNotNull x) = is_not_null x.value
tree_of (IsNan x) = is_nan x.value
tree_of (Between x lo hi o) =
    between x.value lo.value hi.value (is_strict o.lower_strict) (is_strict o.upper_strict)
tree_of (Like x form o) = like x.value form.value o.negated o.case_insensitive
tree_of RowCount = row_count
tree_of (Stat f x) = statistic x.value (aggregate_of f)
