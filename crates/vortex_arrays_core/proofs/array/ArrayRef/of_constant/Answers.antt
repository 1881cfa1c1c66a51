use Rattle.std.below.core.proofs.iter.Serving.{as_err}
use Rattle.std.proofs.Common.{arith}
use Rattle.vortex_arrays_core.proofs.Constructors.{valid_so}
use borrow.Author.Rules.{get_or_read}
use Rattle.vortex_arrays_core.proofs.array.ArrayRef.of_constant.Goals as goal

pub invariant_of-scalar : goal.invariant_of-scalar
invariant_of-scalar c = grind (arith, valid_so, get_or_read)

pub returns-in_err-dtype : goal.returns-in_err-dtype
returns-in_err-dtype c = grind (arith, (as_err c.from_residual.ensures.0).1)

pub returns : goal.returns
returns c = grind (arith, valid_so, get_or_read)
