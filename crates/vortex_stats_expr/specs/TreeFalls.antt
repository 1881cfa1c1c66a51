-- Each child has a smaller tree.
use Rattle.std.specs.Prelude.{◌≤◌, max}
use Rattle.std.proofs.Common.{arith}
use Rattle.vortex_stats_expr.specs.declared.expression.Node.{Node}
use Rattle.vortex_stats_expr.specs.declared.expression.Node.TheVariants.{Literal, Column, Compare, And, Or, Not, IsNull, IsNotNull, IsNan, Between, Like, RowCount, Stat}
use Rattle.vortex_stats_expr.specs.declared.expression.Expression.TheDeep.{deep-Node}
use Rattle.vortex_stats_expr.specs.TreeCode.{size_of}
use Rattle.vortex_stats_expr.specs.TreeOf.{tree_of}

pub depth_le-size : (n : Node) → max (deep-Node n) 0 ≤ size_of (tree_of n)
depth_le-size (Literal s) = omega arith
depth_le-size (Column path) = omega arith
depth_le-size (Compare o x y) = omega arith
depth_le-size (And x y) = omega arith
depth_le-size (Or x y) = omega arith
depth_le-size (Not x) = omega arith
depth_le-size (IsNull x) = omega arith
depth_le-size (IsNotNull x) = omega arith
depth_le-size (IsNan x) = omega arith
depth_le-size (Between x lo hi o) = omega arith
depth_le-size (Like x form o) = omega arith
depth_le-size RowCount = omega arith
depth_le-size (Stat f x) = omega arith
