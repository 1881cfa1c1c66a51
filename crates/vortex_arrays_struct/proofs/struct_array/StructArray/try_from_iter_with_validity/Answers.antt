use Rattle.std.proofs.Common.{arith}
use Rattle.std.proofs.lemmas.Grind.{elements}
use Rattle.vortex_arrays_struct.proofs.struct_array.StructArray.try_from_iter_with_validity.Goals as goal

pub returns : goal.returns
returns g c = grind (arith, elements)
