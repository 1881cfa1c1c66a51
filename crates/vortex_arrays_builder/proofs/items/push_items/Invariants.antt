use Rattle.std.proofs.Common.{◌≡◌, ◌++◌, map, take}
use Rattle.vortex_scalar_value.specs.View.{raw_at, raw_in}
use Rattle.vortex_arrays_builder.proofs.items.push_items.Given as goal

abbrev pub invariant-loop-item : goal.invariant-loop-item
invariant-loop-item l = map raw_at l.all.items ≡ map raw_at l.fn.all.items ++ map raw_in (take l.item-index l.items)
