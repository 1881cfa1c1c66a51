use Rattle.std.proofs.Common.{◌≡◌, ◌-◌, length, map, take}
use Rattle.vortex_arrays_view.specs.Lengths.{lengths_between}
use Rattle.vortex_arrays_view.proofs.lengths.offsets_to_lengths.Given as goal

abbrev pub invariant-loop-i : goal.invariant-loop-i
invariant-loop-i g l = record {
  room : length l.lengths.items ≡ length l.offsets - 1;
  made : map g.P.Sealed.integer (take l.i l.lengths.items) ≡ take l.i (lengths_between (map g.P.Sealed.integer l.offsets));
}
