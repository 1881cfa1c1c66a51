use Rattle.std.below.core.proofs.iter.Serving.{as_err}
use Rattle.std.proofs.Common.{arith}
use Rattle.std.proofs.lemmas.Grind.{common_steps}
use Rattle.vortex_dtype_fields.proofs.struct_fields_ext.extended.Goals as goal

pub returns-in_err-reserve : goal.returns-in_err-reserve
returns-in_err-reserve c = grind (arith, (as_err c.from_residual.ensures.0).1)

pub loop-field-init : goal.loop-field-init
loop-field-init c = grind (arith, common_steps)

pub offset_bounds-more-field-index : goal.offset_bounds-more-field-index
offset_bounds-more-field-index c = grind (arith, common_steps)

pub returns-in_err-name : goal.returns-in_err-name
returns-in_err-name c = grind (arith, (as_err c.from_residual-in_err-name.ensures.0).1)

pub returns-in_err-dtype : goal.returns-in_err-dtype
returns-in_err-dtype c = grind (arith, (as_err c.from_residual-in_err-dtype.ensures.0).1)

pub same-name : goal.same-name
same-name c = grind (arith, common_steps)

pub returns-in_err-push : goal.returns-in_err-push
returns-in_err-push c = grind (arith, (as_err c.from_residual-in_err-push.ensures.0).1)

pub returns : goal.returns
returns c = grind (arith, common_steps)
