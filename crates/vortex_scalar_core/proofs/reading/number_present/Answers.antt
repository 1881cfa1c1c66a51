use Rattle.std.proofs.Common.{arith}
use Rattle.vortex_scalar_core.proofs.Natives.{present}
use Rattle.vortex_scalar_core.proofs.reading.number_present.Goals as goal

pub returns-in-Some : goal.returns-in-Some
returns-in-Some c = grind (arith, present)

pub returns-in-None : goal.returns-in-None
returns-in-None c = grind (arith, present)
