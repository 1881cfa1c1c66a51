use Rattle.std.proofs.Common.{take}
use Rattle.vortex_stats_expr.specs.Bitsets.{IsBitset}
use Rattle.vortex_stats_expr.proofs.bitset.as_stat_bitset_bytes.Given as goal

abbrev pub invariant-loop-stat : goal.invariant-loop-stat
invariant-loop-stat l = IsBitset (take l.stat-index l.stats) l.bytes.items
