use Rattle.std.proofs.Common.{◌≡◌, take}
use Rattle.vortex_arrays_rebuild.specs.Runs.{items_in}
use Rattle.vortex_arrays_rebuild.proofs.items.copy_items.Given as goal

abbrev pub invariant-loop-i : goal.invariant-loop-i
invariant-loop-i g l = l.copied.items ≡ items_in l.items (take l.i l.runs.list.items)
