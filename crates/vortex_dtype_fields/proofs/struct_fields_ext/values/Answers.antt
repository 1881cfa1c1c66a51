use Rattle.std.proofs.Common.{arith}
use Rattle.std.proofs.lemmas.Grind.{common_steps}
use Rattle.std.below.core.proofs.iter.Serving.{as_err}
use Rattle.vortex_dtype_fields.proofs.struct_fields_ext.values.Goals as goal

pub offset_bounds-dtype-items-dtype-index : goal.offset_bounds-dtype-items-dtype-index
offset_bounds-dtype-items-dtype-index c = grind (arith, common_steps)

pub returns-in_err-push : goal.returns-in_err-push
returns-in_err-push c = grind (arith, (as_err c.from_residual-in_err-push.ensures.0).1)

pub loop-dtype-preserved : goal.loop-dtype-preserved
loop-dtype-preserved c = grind (arith, common_steps)

pub loop-dtype-init : goal.loop-dtype-init
loop-dtype-init c = grind (arith, common_steps)

pub bounds-dtype-items-dtype-index : goal.bounds-dtype-items-dtype-index
bounds-dtype-items-dtype-index c = grind (arith, common_steps)

pub returns : goal.returns
returns c = grind (arith, common_steps)

pub returns-in_err-values : goal.returns-in_err-values
returns-in_err-values c = grind (arith, (as_err c.from_residual.ensures.0).1)

pub returns-in_err-value : goal.returns-in_err-value
returns-in_err-value c = grind (arith, (as_err c.from_residual-in_err-value.ensures.0).1)
