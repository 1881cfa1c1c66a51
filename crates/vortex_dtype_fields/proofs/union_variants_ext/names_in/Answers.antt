use Rattle.std.below.core.proofs.iter.Serving.{as_err}
use Rattle.std.proofs.Common.{arith}
use Rattle.std.proofs.lemmas.Grind.{common_steps}
use Rattle.vortex_dtype_fields.proofs.Choices.{in_order}
use Rattle.vortex_dtype_fields.proofs.union_variants_ext.names_in.Goals as goal

pub returns-in_err-names : goal.returns-in_err-names
returns-in_err-names c = grind (arith, (as_err c.from_residual.ensures.0).1)

pub loop-variant-init : goal.loop-variant-init
loop-variant-init c = grind (arith, in_order)

pub offset_bounds-variants-variant-index : goal.offset_bounds-variants-variant-index
offset_bounds-variants-variant-index c = grind (arith, in_order, c.well_formed)

pub bounds-variants-variant-index : goal.bounds-variants-variant-index
bounds-variants-variant-index c = grind (arith, in_order, c.well_formed)

pub returns-in_err-clone : goal.returns-in_err-clone
returns-in_err-clone c = grind (arith, (as_err c.from_residual-in_err-clone.ensures.0).1)

pub returns-in_err-push : goal.returns-in_err-push
returns-in_err-push c = grind (arith, (as_err c.from_residual-in_err-push.ensures.0).1)

pub returns : goal.returns
returns c = grind (arith, common_steps)
