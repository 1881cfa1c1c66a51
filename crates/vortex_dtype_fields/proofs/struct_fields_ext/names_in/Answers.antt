use Rattle.std.below.core.proofs.iter.Serving.{as_err}
use Rattle.std.proofs.Common.{arith}
use Rattle.std.proofs.lemmas.Grind.{common_steps}
use Rattle.vortex_dtype_fields.proofs.Pieces.{names_in_order}
use Rattle.vortex_dtype_fields.proofs.struct_fields_ext.names_in.Goals as goal

pub returns-in_err-names : goal.returns-in_err-names
returns-in_err-names c = grind (arith, (as_err c.from_residual.ensures.0).1)

pub loop-field-init : goal.loop-field-init
loop-field-init c = grind (arith, names_in_order)

pub offset_bounds-fields-field-index : goal.offset_bounds-fields-field-index
offset_bounds-fields-field-index c = grind (arith, names_in_order, c.well_formed)

pub bounds-fields-field-index : goal.bounds-fields-field-index
bounds-fields-field-index c = grind (arith, names_in_order, c.well_formed)

pub returns-in_err-clone : goal.returns-in_err-clone
returns-in_err-clone c = grind (arith, (as_err c.from_residual-in_err-clone.ensures.0).1)

pub returns-in_err-push : goal.returns-in_err-push
returns-in_err-push c = grind (arith, (as_err c.from_residual-in_err-push.ensures.0).1)

pub returns : goal.returns
returns c = grind (arith, common_steps)
