use Rattle.std.proofs.Common.{◌≡◌, length}
use Rattle.vortex_stats_expr.specs.Tree.{combined}
use Rattle.vortex_stats_expr.specs.Collect.{collected}
use Rattle.vortex_stats_expr.proofs.collect.collect.Given as goal

abbrev pub invariant-loop-alloc : goal.invariant-loop-alloc
invariant-loop-alloc l = collected (combined l.operator) l.left.items ≡ collected (combined l.operator) l.fn.predicates.items

abbrev pub decreases-loop-alloc : goal.decreases-loop-alloc
decreases-loop-alloc l = length l.left.items
