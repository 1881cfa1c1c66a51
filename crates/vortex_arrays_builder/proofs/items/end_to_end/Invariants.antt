use Rattle.std.proofs.Common.{◌≡◌, map, take}
use Rattle.std.specs.List.{flat_map}
use Rattle.vortex_scalar_value.specs.View.{raw_at}
use Rattle.vortex_arrays_builder.specs.Items.{raw_items}
use Rattle.vortex_arrays_builder.proofs.ItemLemmas.{FirstStand}
use Rattle.vortex_arrays_builder.proofs.items.end_to_end.Given as goal

abbrev pub invariant-loop-i : goal.invariant-loop-i
invariant-loop-i l = record {
  stand : FirstStand l.values l.i l.offsets.items l.sizes.items;
  gathered : map raw_at l.items.items ≡ flat_map raw_items (map raw_at (take l.i l.values));
}
