use Rattle.std.proofs.Common.{◌+◌, ℕ, length, drop}
use Rattle.std.specs.Prelude.{sum}
use Rattle.vortex_model.specs.Content.{Content}
use Rattle.vortex_stats_array.specs.Counted.{spread}
use Rattle.vortex_stats_array.specs.Running.{ReadsRows, IsSeen, FitsRows}
use Rattle.vortex_stats_array.proofs.seen.seen_counted.Given as goal

abbrev pub invariant-loop-j : goal.invariant-loop-j
invariant-loop-j g l = FitsRows l.running (l.counts.nulls + sum (drop l.j l.counts.of_values.items))
    × ((content : ℕ → Content) → ReadsRows g.V.LeafValue.said (length l.counts.of_values.items) (λ j v. g.F.Fn.post l.value (j, tt) v) content →
    IsSeen g.V.LeafValue.said l.running (spread (drop l.j l.counts.of_values.items) l.counts.nulls content l.j))
