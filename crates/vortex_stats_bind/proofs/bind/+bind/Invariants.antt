-- Two sides count one less than the tree that joins them.
use Rattle.std.proofs.Common.{◌+◌, ◌*◌}
use Rattle.vortex_stats_expr.specs.TreeCode.{size_of}
use Rattle.vortex_stats_bind.proofs.bind.+bind.Given as goal

abbrev pub decreases-bind_boxed : goal.decreases-bind_boxed
decreases-bind_boxed l = 2 * size_of l.e.now

abbrev pub decreases-bind_both : goal.decreases-bind_both
decreases-bind_both l = 2 * (size_of l.left.now + size_of l.right.now) + 1
