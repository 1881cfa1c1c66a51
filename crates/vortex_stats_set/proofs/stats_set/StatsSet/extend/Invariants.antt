use Rattle.std.proofs.Common.{◌≡◌}
use Rattle.vortex_stats_set.specs.Sets.{set_in_turn}
use Rattle.vortex_stats_set.proofs.stats_set.StatsSet.extend.Given as goal

abbrev pub invariant-loop-pair : goal.invariant-loop-pair
invariant-loop-pair g l = l.self ≡ set_in_turn l.initial.self l.yielded
