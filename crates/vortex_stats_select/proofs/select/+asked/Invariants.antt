-- Two parts count one less than the tree that joins them.
use Rattle.std.proofs.Common.{◌+◌, ◌*◌}
use Rattle.vortex_stats_bind.specs.Bound.{bound_size}
use Rattle.vortex_stats_select.proofs.select.+asked.Given as goal

abbrev pub decreases-select_asked : goal.decreases-select_asked
decreases-select_asked g l = 3 * bound_size l.predicate.now

abbrev pub decreases-both_parts : goal.decreases-both_parts
decreases-both_parts g l = 3 * (bound_size l.first.now + bound_size l.last.now) + 2

abbrev pub decreases-part_behind : goal.decreases-part_behind
decreases-part_behind g l = 3 * bound_size l.last.now + 1
