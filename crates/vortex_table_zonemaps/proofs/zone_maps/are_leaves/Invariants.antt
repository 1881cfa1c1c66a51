use Rattle.std.proofs.Common.{◌≡◌, drop, length}
use Rattle.vortex_table_chunk.specs.Formed.{eq_leaves}
use Rattle.vortex_table_zonemaps.proofs.zone_maps.are_leaves.Given as goal

abbrev pub invariant-loop-i : goal.invariant-loop-i
invariant-loop-i l = record {
  eq_length : length l.found ≡ length l.wanted;
  left : eq_leaves (drop l.i l.found) (drop l.i l.wanted) ≡ eq_leaves l.found l.wanted;
}
