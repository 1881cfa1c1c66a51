use Rattle.std.proofs.Common.{◌≡◌, ◌≤◌, take}
use Rattle.vortex_stats_set.specs.Known.{raw_pairs}
use Rattle.vortex_stats_set.proofs.stats_set.clone_pairs.Given as goal

abbrev pub invariant-loop-pair : goal.invariant-loop-pair
invariant-loop-pair l = (raw_pairs l.copies.items ≡ raw_pairs (take l.pair-index l.pairs)) × (4 ≤ l.copies.capacity)
