use Rattle.std.proofs.Common.{false}
use Rattle.vortex_dtype_core.specs.View.{type_of}
use Rattle.vortex_table_plan.proofs.Checks.{for_memory}
use Rattle.vortex_table_plan.proofs.bind.bind_checked.Goals as goal

pub returns-in-Err-clause-refused : goal.returns-in-Err-clause-refused
returns-in-Err-clause-refused c =
    c.rule_error.ensures false (for_memory false (type_of c.args.dtype.now) c.args.e.now c.in-Err.error c.requires c.in-Err.ensures.bound)
