use Rattle.std.below.core.proofs.iter.Serving.{as_err}
use Rattle.std.proofs.Common.{arith}
use Rattle.vortex_scalar_core.proofs.Natives.{present}
use Rattle.vortex_scalar_core.proofs.into_native.BoolTryFromScalar.try_from.Goals as goal

pub invariant_of-scalar : goal.invariant_of-scalar
invariant_of-scalar c = grind (arith, present)

pub returns-in_err-found : goal.returns-in_err-found
returns-in_err-found c = grind (arith, (as_err c.from_residual.ensures.0).1)

pub invariant_of-scalar-in-Some : goal.invariant_of-scalar-in-Some
invariant_of-scalar-in-Some c = grind (arith, present)

pub returns-in-Some : goal.returns-in-Some
returns-in-Some c = grind (arith, present)

pub invariant_of-scalar-2 : goal.invariant_of-scalar-2
invariant_of-scalar-2 c = grind (arith, present)

pub returns : goal.returns
returns c = grind (arith, present)
