use Rattle.std.proofs.Common.{◌≡◌, take, map}
use Rattle.vortex_scalar_value.specs.View.{raw_in}
use Rattle.vortex_scalar_value.proofs.clone.+copy.Given as goal

abbrev pub invariant-copy_items-loop-item : goal.invariant-copy_items-loop-item
invariant-copy_items-loop-item l = map raw_in l.copies.items ≡ map raw_in (take l.item-index l.item-items)
