use Rattle.std.proofs.Common.{arith}
use Rattle.vortex_arrays_core.proofs.Constructors.{of_records}
use Rattle.vortex_arrays_core.proofs.make.struct_dtype.Goals as goal

pub returns : goal.returns
returns c = grind (arith, of_records)
