-- Two sides count one less than the tree that joins them.
use Rattle.std.proofs.Common.{◌+◌, ◌*◌}
use Rattle.vortex_stats_expr.specs.TreeOf.{tree_of}
use Rattle.vortex_stats_expr.specs.TreeCode.{size_of}
use Rattle.vortex_stats_expr.proofs.expression.+copy.Given as goal

abbrev pub decreases-copy_of : goal.decreases-copy_of
decreases-copy_of l = 3 * size_of (tree_of l.node.now)

abbrev pub decreases-copy_both : goal.decreases-copy_both
decreases-copy_both l = 3 * (size_of l.left.now + size_of l.right.now) + 1

abbrev pub decreases-copy_range : goal.decreases-copy_range
decreases-copy_range l = 3 * (size_of l.value.now + size_of l.lower.now + size_of l.upper.now) + 2
