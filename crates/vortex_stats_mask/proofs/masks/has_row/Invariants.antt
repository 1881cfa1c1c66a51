use Rattle.std.proofs.Common.{◌≡◌}
use Rattle.std.specs.List.{list_any, slice_range}
use Rattle.vortex_stats_mask.proofs.masks.has_row.Given as goal

abbrev pub invariant-loop-i : goal.invariant-loop-i
invariant-loop-i l = l.found ≡ list_any (λ row. row) (slice_range l.mask l.from l.i)
