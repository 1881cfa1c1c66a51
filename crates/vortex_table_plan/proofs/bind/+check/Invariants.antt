-- Two sides count one less than the tree that joins them.
use Rattle.std.proofs.Common.{◌+◌, ◌*◌}
use Rattle.vortex_stats_expr.specs.TreeCode.{size_of}
use Rattle.vortex_table_plan.proofs.bind.+check.Given as goal

abbrev pub decreases-check : goal.decreases-check
decreases-check l = 2 * size_of l.e.now

abbrev pub decreases-check_both : goal.decreases-check_both
decreases-check_both l = 2 * (size_of l.left.now + size_of l.right.now) + 1
