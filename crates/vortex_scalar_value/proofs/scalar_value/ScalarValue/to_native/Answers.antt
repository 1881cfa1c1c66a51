use Rattle.std.proofs.Common.{arith}
use Rattle.vortex_scalar_value.proofs.Views.{numbers}
use Rattle.vortex_scalar_value.proofs.scalar_value.ScalarValue.to_native.Goals as goal

pub returns-in-None : goal.returns-in-None
returns-in-None c = grind (arith, numbers)

pub returns-in-Some : goal.returns-in-Some
returns-in-Some c = grind (arith, numbers)
