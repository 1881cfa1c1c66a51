-- Two sides count one less than the tree that joins them.
use Rattle.std.proofs.Common.{◌+◌, ◌*◌}
use Rattle.vortex_stats_bind.specs.Bound.{bound_size}
use Rattle.vortex_stats_bind.proofs.stats.+bind.Given as goal

abbrev pub decreases-bind_boxed : goal.decreases-bind_boxed
decreases-bind_boxed g l = 3 * bound_size l.proof.now

abbrev pub decreases-bind_both : goal.decreases-bind_both
decreases-bind_both g l = 3 * (bound_size l.x.now + bound_size l.y.now) + 1

abbrev pub decreases-bind_range : goal.decreases-bind_range
decreases-bind_range g l = 3 * (bound_size l.x.now + bound_size l.lower.now + bound_size l.upper.now) + 2
