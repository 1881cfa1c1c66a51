use Rattle.std.proofs.Common.{◌≡◌, ◌&&◌, length, take}
use Rattle.vortex_stats_mask.proofs.Changed.{changed_first}
use Rattle.vortex_stats_mask.proofs.masks.keep_flags.Given as goal

abbrev pub invariant-loop-i : goal.invariant-loop-i
invariant-loop-i l = l.mask.items ≡ changed_first (λ m x. m && x) l.i (take (length l.rows) l.fn.mask.items) l.rows
