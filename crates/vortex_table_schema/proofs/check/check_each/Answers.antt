use Rattle.std.below.core.proofs.iter.Serving.{as_err}
use Rattle.std.proofs.Common.{arith}
use Rattle.std.proofs.lemmas.Grind.{common_steps}
use Rattle.vortex_table_schema.proofs.check.check_each.Goals as goal

pub loop-index-init : goal.loop-index-init
loop-index-init c = grind (arith, common_steps)

pub offset_bounds-paths-index : goal.offset_bounds-paths-index
offset_bounds-paths-index c = grind (arith, common_steps)

pub bounds-paths-index : goal.bounds-paths-index
bounds-paths-index c = grind (arith, common_steps)

pub returns-in_err-check_path-clause-ok : goal.returns-in_err-check_path-clause-ok
returns-in_err-check_path-clause-ok c = grind (arith, (as_err c.from_residual.ensures.0).1)

pub returns-in_err-check_path-clause-refused : goal.returns-in_err-check_path-clause-refused
returns-in_err-check_path-clause-refused c = grind (arith, common_steps)

pub loop-index-preserved : goal.loop-index-preserved
loop-index-preserved c = grind (arith, common_steps)

pub returns-clause-ok : goal.returns-clause-ok
returns-clause-ok c = grind (arith, common_steps)

pub returns-clause-refused : goal.returns-clause-refused
returns-clause-refused c = grind (arith, common_steps)
