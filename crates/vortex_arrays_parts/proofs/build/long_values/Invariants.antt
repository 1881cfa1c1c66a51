use Rattle.std.proofs.Common.{◌≡◌, map, take}
use Rattle.std.specs.List.{flat_map}
use Rattle.vortex_arrays_builder.specs.Strings.{buffered}
use Rattle.vortex_arrays_parts.specs.Values.{lent, raw_of_bytes}
use Rattle.vortex_arrays_parts.proofs.build.long_values.Given as goal

abbrev pub invariant-loop-value : goal.invariant-loop-value
invariant-loop-value l = l.bytes.items ≡ flat_map buffered (map raw_of_bytes (map lent (take l.value-index l.values)))
