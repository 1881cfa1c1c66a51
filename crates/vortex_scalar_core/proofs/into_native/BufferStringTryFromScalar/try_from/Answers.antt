use Rattle.std.below.core.proofs.iter.Serving.{as_err}
use Rattle.std.proofs.Common.{arith}
use Rattle.vortex_scalar_core.proofs.Natives.{present}
use Rattle.vortex_scalar_core.proofs.into_native.BufferStringTryFromScalar.try_from.Goals as goal

pub returns-in_err-found : goal.returns-in_err-found
returns-in_err-found c = grind (arith, (as_err c.from_residual.ensures.0).1)

pub returns-in-Some : goal.returns-in-Some
returns-in-Some c = grind (arith, present)

pub returns-in-None : goal.returns-in-None
returns-in-None c = grind (arith, present)
