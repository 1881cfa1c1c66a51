use Rattle.std.proofs.Common.{◌≡◌}
use Rattle.std.specs.Slice.Iter.{iter_rest}
use Rattle.vortex_stats_set.specs.Known.{raw_pairs}
use Rattle.vortex_stats_set.specs.Combine.{combined_in_turn}
use Rattle.vortex_stats_set.proofs.stats_set.StatsSet.combine_in_turn.Given as goal

abbrev pub invariant-loop-pair : goal.invariant-loop-pair
invariant-loop-pair l = combined_in_turn l.one (raw_pairs l.self) (raw_pairs (iter_rest l.pair-iterator)) ≡ combined_in_turn l.one (raw_pairs l.initial.self) (raw_pairs l.other)
