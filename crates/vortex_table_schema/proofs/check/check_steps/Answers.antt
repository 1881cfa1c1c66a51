use Rattle.std.proofs.Common.{arith}
use Rattle.std.proofs.lemmas.Grind.{common_steps}
use Rattle.vortex_table_schema.proofs.check.check_steps.Goals as goal

pub loop-step-init : goal.loop-step-init
loop-step-init c = grind (arith, common_steps)

pub offset_bounds-steps-step-index : goal.offset_bounds-steps-step-index
offset_bounds-steps-step-index c = grind (arith, common_steps)

pub returns-in-None-clause-ok : goal.returns-in-None-clause-ok
returns-in-None-clause-ok c = grind (arith, common_steps)

pub returns-in-None-clause-refused : goal.returns-in-None-clause-refused
returns-in-None-clause-refused c = grind (arith, common_steps)

pub returns-in-ElementType-clause-ok : goal.returns-in-ElementType-clause-ok
returns-in-ElementType-clause-ok c = grind (arith, common_steps)

pub returns-in-ElementType-clause-refused : goal.returns-in-ElementType-clause-refused
returns-in-ElementType-clause-refused c = grind (arith, common_steps)

pub loop-step-preserved : goal.loop-step-preserved
loop-step-preserved c = grind (arith, common_steps)

pub returns-clause-ok : goal.returns-clause-ok
returns-clause-ok c = grind (arith, common_steps)

pub returns-clause-refused : goal.returns-clause-refused
returns-clause-refused c = grind (arith, common_steps)
