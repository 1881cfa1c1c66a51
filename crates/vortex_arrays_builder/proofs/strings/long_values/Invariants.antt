use Rattle.std.proofs.Common.{◌≡◌, map, take}
use Rattle.std.specs.List.{flat_map}
use Rattle.vortex_scalar_value.specs.View.{raw_at}
use Rattle.vortex_arrays_builder.specs.Strings.{buffered}
use Rattle.vortex_arrays_builder.proofs.strings.long_values.Given as goal

abbrev pub invariant-loop-value : goal.invariant-loop-value
invariant-loop-value l = l.bytes.items ≡ flat_map buffered (map raw_at (take l.value-index l.values))
