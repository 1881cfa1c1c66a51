use Rattle.std.below.core.proofs.iter.Serving.{as_err}
use Rattle.std.proofs.Common.{arith}
use Rattle.std.proofs.lemmas.Grind.{common_steps}
use Rattle.vortex_table_request.proofs.command.read_append.Goals as goal

pub overflow_add-present_members : goal.overflow_add-present_members
overflow_add-present_members c = grind (arith, common_steps)

pub returns-then-size-present_members : goal.returns-then-size-present_members
returns-then-size-present_members c = grind (arith, common_steps)

pub returns-in_err-layouts : goal.returns-in_err-layouts
returns-in_err-layouts c = grind (arith, (as_err c.from_residual.ensures.0).1)

pub returns-in_err-ok_or : goal.returns-in_err-ok_or
returns-in_err-ok_or c = grind (arith, (as_err c.from_residual-in_err-ok_or.ensures.0).1)

pub returns-in_err-dtype : goal.returns-in_err-dtype
returns-in_err-dtype c = grind (arith, (as_err c.from_residual-in_err-dtype.ensures.0).1)

pub returns-in_err-values : goal.returns-in_err-values
returns-in_err-values c = grind (arith, (as_err c.from_residual-in_err-values.ensures.0).1)

pub returns : goal.returns
returns c = grind (arith, common_steps)
