use Rattle.std.proofs.Common.{◌≡◌, ◌+◌, ◌<◌, ◌^◌, length}
use Rattle.vortex_arrays_view.proofs.Placed.{Places}
use Rattle.vortex_arrays_view.proofs.build.place_values.Given as goal

abbrev pub invariant-loop-i : goal.invariant-loop-i
invariant-loop-i l = record {
  places : Places l.bytes l.lengths l.first l.limit l.i l.start l.stop l.buffers.items l.views.items;
  fits : l.index < 2 ^ 32;
  next : l.index ≡ l.first + length l.buffers.items;
}
