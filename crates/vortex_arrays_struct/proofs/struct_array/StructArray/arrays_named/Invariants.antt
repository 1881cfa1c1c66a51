use Rattle.std.proofs.Common.{◌≡◌, Some, map, take}
use Rattle.vortex_arrays_struct.specs.Records.{columns_in}
use Rattle.vortex_arrays_struct.specs.Edited.{array_named}
use Rattle.vortex_arrays_struct.proofs.struct_array.StructArray.arrays_named.Given as goal

abbrev pub invariant-loop-name : goal.invariant-loop-name
invariant-loop-name l = map Some l.arrays.items ≡ map (array_named (columns_in l.self)) (take l.name-index l.names)
