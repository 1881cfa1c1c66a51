use Rattle.std.proofs.Common.{arith}
use Rattle.std.below.core.proofs.iter.Serving.{as_err}
use Rattle.vortex_arrays_struct.proofs.Constants.{pushed}
use Rattle.vortex_arrays_struct.proofs.mask.push_into_constant.Goals as goal

pub returns-in_err-clone-clause-masked : goal.returns-in_err-clone-clause-masked
returns-in_err-clone-clause-masked c = grind (arith, (as_err c.from_residual-in_err-clone.ensures.0).1)

pub returns-in_err-pushed-clause-masked : goal.returns-in_err-pushed-clause-masked
returns-in_err-pushed-clause-masked c = grind (arith, (as_err c.from_residual-in_err-pushed.ensures.0).1)

pub returns-in_err-codes-clause-masked : goal.returns-in_err-codes-clause-masked
returns-in_err-codes-clause-masked c = grind (arith, (as_err c.from_residual.ensures.0).1)

pub returns-clause-masked : goal.returns-clause-masked
returns-clause-masked c = grind (arith, pushed)

pub returns-in_err-clone-clause-flags : goal.returns-in_err-clone-clause-flags
returns-in_err-clone-clause-flags c = grind (arith, (as_err c.from_residual-in_err-clone.ensures.0).1)

pub returns-in_err-codes-clause-flags : goal.returns-in_err-codes-clause-flags
returns-in_err-codes-clause-flags c = grind (arith, (as_err c.from_residual.ensures.0).1)

pub returns-in_err-value-clause-flags : goal.returns-in_err-value-clause-flags
returns-in_err-value-clause-flags c = grind (arith, (as_err c.from_residual-in_err-value.ensures.0).1)

pub returns-in_err-pushed-clause-flags : goal.returns-in_err-pushed-clause-flags
returns-in_err-pushed-clause-flags c = grind (arith, (as_err c.from_residual-in_err-pushed.ensures.0).1)

pub returns-clause-flags : goal.returns-clause-flags
returns-clause-flags c = grind (arith, pushed)

pub returns-in_err-value-clause-masked : goal.returns-in_err-value-clause-masked
returns-in_err-value-clause-masked c = grind (arith, (as_err c.from_residual-in_err-value.ensures.0).1)
