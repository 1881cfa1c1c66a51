use Rattle.std.below.core.proofs.iter.Serving.{as_err}
use Rattle.std.proofs.Common.{arith}
use Rattle.vortex_scalar_ops.proofs.Nullable.{kept}
use Rattle.vortex_scalar_core.proofs.scalar.Scalar.into_nullable.Goals as goal

pub returns-in_err-dtype-clause-dtype : goal.returns-in_err-dtype-clause-dtype
returns-in_err-dtype-clause-dtype c = grind (arith, (as_err c.from_residual.ensures.0).1)

pub returns-in_err-dtype-clause-value : goal.returns-in_err-dtype-clause-value
returns-in_err-dtype-clause-value c = grind (arith, (as_err c.from_residual.ensures.0).1)

pub returns-clause-dtype : goal.returns-clause-dtype
returns-clause-dtype c = grind (arith, kept)

pub returns-clause-value : goal.returns-clause-value
returns-clause-value c = grind (arith, kept)
