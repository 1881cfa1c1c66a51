use Rattle.std.proofs.Common.{◌-◌, ℕ, map}
use Rattle.std.specs.List.{range_with_len}
use Rattle.vortex_model.specs.Content.{Content}
use Rattle.vortex_stats_array.specs.Running.{ReadsRows, IsSeen, FitsRows}
use Rattle.vortex_stats_array.proofs.seen.seen_rows.Given as goal

abbrev pub invariant-loop-i : goal.invariant-loop-i
invariant-loop-i g l = FitsRows l.running (l.len - l.i)
    × ((content : ℕ → Content) → ReadsRows g.V.LeafValue.said l.len (λ i v. g.F.Fn.post l.row (i, tt) v) content →
    IsSeen g.V.LeafValue.said l.running (map content (range_with_len l.i (l.len - l.i))))
