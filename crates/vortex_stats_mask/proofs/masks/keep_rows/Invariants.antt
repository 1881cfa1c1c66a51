use Rattle.std.proofs.Common.{◌≡◌, length, List, Bool}
use Rattle.vortex_stats_mask.specs.Columns.{kept_first}
use Rattle.vortex_stats_mask.proofs.masks.keep_rows.Given as goal

abbrev pub invariant-loop-i : goal.invariant-loop-i
invariant-loop-i l = record {
  count : length l.mask.items ≡ length l.fn.mask.items;
  rows : (all : List Bool) → l.fn.mask.items ≡ kept_first l.from l.bits all → l.mask.items ≡ kept_first l.i l.bits all;
}
