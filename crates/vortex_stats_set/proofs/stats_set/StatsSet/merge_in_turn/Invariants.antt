use Rattle.std.proofs.Common.{◌≡◌}
use Rattle.vortex_stats_expr.specs.Stats.{all_stats}
use Rattle.vortex_stats_set.specs.Known.{raw_pairs}
use Rattle.vortex_stats_set.specs.Merge.{merged_in_turn}
use Rattle.vortex_stats_set.proofs.stats_set.StatsSet.merge_in_turn.Given as goal

abbrev pub invariant-loop-stat : goal.invariant-loop-stat
invariant-loop-stat l = merged_in_turn l.ordered l.one l.stat-iterator (raw_pairs l.self) (raw_pairs l.other) ≡ merged_in_turn l.ordered l.one all_stats (raw_pairs l.initial.self) (raw_pairs l.other)
