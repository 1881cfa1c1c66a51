use Rattle.std.proofs.Common.{arith}
use Rattle.std.below.core.proofs.iter.Serving.{as_err}
use Rattle.vortex_dtype_core.proofs.Views.{one_level}
use Rattle.vortex_dtype_core.proofs.map_dtype.MapDType.try_new.Goals as goal

pub returns-then-is_nullable-clause-accepted : goal.returns-then-is_nullable-clause-accepted
returns-then-is_nullable-clause-accepted c = grind (arith, one_level)

pub returns-clause-refused : goal.returns-clause-refused
returns-clause-refused c = grind (arith, one_level)

pub returns-clause-accepted : goal.returns-clause-accepted
returns-clause-accepted c = grind (arith, one_level)

pub returns-then-is_nullable-clause-refused : goal.returns-then-is_nullable-clause-refused
returns-then-is_nullable-clause-refused c = grind (arith, one_level)

pub returns-in_err-entries-clause-made : goal.returns-in_err-entries-clause-made
returns-in_err-entries-clause-made c = grind (arith, (as_err c.from_residual.ensures.0).1)

pub returns-in_err-entries-clause-accepted : goal.returns-in_err-entries-clause-accepted
returns-in_err-entries-clause-accepted c = grind (arith, (as_err c.from_residual.ensures.0).1)

pub returns-then-is_nullable-clause-made : goal.returns-then-is_nullable-clause-made
returns-then-is_nullable-clause-made c = grind (arith, one_level)

pub returns-in_err-entries-clause-refused : goal.returns-in_err-entries-clause-refused
returns-in_err-entries-clause-refused c = grind (arith, (as_err c.from_residual.ensures.0).1)
