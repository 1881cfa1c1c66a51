use Rattle.std.proofs.Common.{◌≡◌, ◌++◌, filter}
use Rattle.vortex_stats_expr.specs.Stats.{number_of_stat}
use Rattle.vortex_stats_expr.specs.Bitsets.{has_bit, stats_in}
use Rattle.vortex_stats_expr.proofs.bitset.stats_from_bitset_bytes.Given as goal

abbrev pub invariant-loop-stat : goal.invariant-loop-stat
invariant-loop-stat l = l.stats.items ++ filter (λ s. has_bit l.bytes (number_of_stat s)) l.stat-iterator ≡ stats_in l.bytes
