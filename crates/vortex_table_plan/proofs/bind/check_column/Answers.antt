-- The fault is answered, so that a wrong one is refused at once.
use Rattle.std.proofs.Common.{arith}
use Rattle.vortex_table_plan.proofs.Checks.{of_columns}
use Rattle.vortex_table_plan.proofs.bind.check_column.Goals as goal

pub returns-in-None : goal.returns-in-None
returns-in-None c = grind (arith, of_columns)
