use Rattle.std.proofs.Common.{rules}
use Rattle.vortex_stats_set.proofs.Seen.{copied_is_set}
use Rattle.vortex_stats_set.proofs.stats_set.StatsSet.clone.Goals as goal

pub invariant_of-result : goal.invariant_of-result
invariant_of-result c = (copied_is_set c.self.inside.values.items c.in_ok-values.values.items (search rules) c.self.invariant.0, search rules)
