use Rattle.std.proofs.Common.{◌≡◌, ◌*◌, length}
use Rattle.vortex_stats_mask.specs.Columns.{kept_first}
use Rattle.vortex_stats_mask.proofs.masks.keep_bits.Given as goal

abbrev pub invariant-loop-k : goal.invariant-loop-k
invariant-loop-k l = record {
  count : length l.mask.items ≡ length l.fn.mask.items;
  rows : l.mask.items ≡ kept_first (16 * l.k) l.bits l.fn.mask.items;
}
