use Rattle.std.proofs.Common.{◌≡◌, length, take}
use Rattle.vortex_arrays_rebuild.specs.Runs.{positions_in, elements_at, FitWithin}
use Rattle.vortex_arrays_rebuild.proofs.runs.Runs.of_elements.Given as goal

abbrev pub invariant-loop-i : goal.invariant-loop-i
invariant-loop-i l = record {
  positions : positions_in (take l.i l.list.items) ≡ elements_at l.size (positions_in (take l.i l.self.list.items));
  within : FitWithin l.count (take l.i l.list.items);
  as_many : length l.list.items ≡ length l.self.list.items;
}
