-- Two sides count one less than the tree that joins them.
use Rattle.std.proofs.Common.{◌+◌, ◌*◌}
use Rattle.vortex_stats_bind.specs.Bound.{bound_size}
use Rattle.vortex_stats_bind.specs.BoundTree.{bound_tree}
use Rattle.vortex_stats_bind.proofs.clone.+copy.Given as goal

abbrev pub decreases-copy_of : goal.decreases-copy_of
decreases-copy_of l = 3 * bound_size (bound_tree l.node.now)

abbrev pub decreases-copy_both : goal.decreases-copy_both
decreases-copy_both l = 3 * (bound_size l.left.now.value + bound_size l.right.now.value) + 2

abbrev pub decreases-copy_boxed : goal.decreases-copy_boxed
decreases-copy_boxed l = 3 * bound_size l.tree.now.value + 1
