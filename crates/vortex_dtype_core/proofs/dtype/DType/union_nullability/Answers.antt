use Rattle.std.proofs.Common.{arith}
use Rattle.std.below.core.proofs.iter.Serving.{as_err}
use Rattle.vortex_dtype_core.proofs.Views.{union_can_be}
use Rattle.vortex_dtype_core.proofs.dtype.DType.union_nullability.Goals as goal

pub returns-in_err-dtype : goal.returns-in_err-dtype
returns-in_err-dtype c = grind (arith, (as_err c.from_residual.ensures.0).1)

pub returns : goal.returns
returns c = grind (arith, union_can_be)

pub with_nullability-requires : goal.with_nullability-requires
with_nullability-requires c κs = grind (arith, union_can_be)
