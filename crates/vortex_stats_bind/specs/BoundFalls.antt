-- Each child has a smaller tree.
use Rattle.std.specs.Prelude.{◌≤◌, max}
use Rattle.std.proofs.Common.{arith}
use Rattle.vortex_stats_bind.specs.declared.bound.BoundNode.{BoundNode}
use Rattle.vortex_stats_bind.specs.declared.bound.BoundNode.TheVariants.{Literal, Column, Compare, And, Or, Not, IsNull, IsNotNull, IsNan, Between, Like, RowCount, Stat}
use Rattle.vortex_stats_bind.specs.declared.bound.BoundExpression.TheDeep.{deep-BoundNode}
use Rattle.vortex_stats_bind.specs.Bound.{bound_size}
use Rattle.vortex_stats_bind.specs.BoundTree.{bound_tree}

pub depth_le-size : (n : BoundNode) → max (deep-BoundNode n) 0 ≤ bound_size (bound_tree n)
depth_le-size (Literal v) = omega arith
depth_le-size (Column is) = omega arith
depth_le-size (Compare o x y) = omega arith
depth_le-size (And x y) = omega arith
depth_le-size (Or x y) = omega arith
depth_le-size (Not x) = omega arith
depth_le-size (IsNull x) = omega arith
depth_le-size (IsNotNull x) = omega arith
depth_le-size (IsNan x) = omega arith
depth_le-size (Between x lo hi o) = omega arith
depth_le-size (Like x form n) = omega arith
depth_le-size RowCount = omega arith
depth_le-size (Stat f x k) = omega arith
