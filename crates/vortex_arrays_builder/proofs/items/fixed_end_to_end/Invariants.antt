use Rattle.std.proofs.Common.{◌≡◌, map, take}
use Rattle.std.specs.List.{flat_map}
use Rattle.vortex_scalar_value.specs.View.{raw_at}
use Rattle.vortex_arrays_builder.specs.Items.{fixed_items}
use Rattle.vortex_arrays_builder.proofs.items.fixed_end_to_end.Given as goal

abbrev pub invariant-loop-value : goal.invariant-loop-value
invariant-loop-value l = map raw_at l.items.items ≡ flat_map (fixed_items l.size) (map raw_at (take l.value-index l.values))
