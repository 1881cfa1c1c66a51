-- An operand is smaller than the expression that has it.
use Rattle.vortex_stats_bind.specs.Bound.{bound_size}
use Rattle.vortex_stats_rules.proofs.push_not.+push.Given as goal

abbrev pub decreases-pushed_in : goal.decreases-pushed_in
decreases-pushed_in l = bound_size l.e.now

abbrev pub decreases-negated : goal.decreases-negated
decreases-negated l = bound_size l.e.now
