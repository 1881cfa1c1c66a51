use Rattle.std.proofs.Common.{arith}
use Rattle.vortex_scalar_value.proofs.Views.{one_level}
use Rattle.vortex_scalar_ops.proofs.native_value.VecNativeValue.into_scalar_value.Goals as goal

pub returns-in_err-items-clause-value : goal.returns-in_err-items-clause-value
returns-in_err-items-clause-value c = grind (arith, one_level)

pub returns-in_err-items-clause-valid : goal.returns-in_err-items-clause-valid
returns-in_err-items-clause-valid c = grind (arith, one_level)

pub returns-clause-value : goal.returns-clause-value
returns-clause-value c = grind (arith, one_level)

pub returns-clause-valid : goal.returns-clause-valid
returns-clause-valid c = grind (arith, one_level)
