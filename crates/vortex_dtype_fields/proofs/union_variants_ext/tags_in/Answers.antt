use Rattle.std.below.core.proofs.iter.Serving.{as_err}
use Rattle.std.proofs.Common.{arith}
use Rattle.std.proofs.lemmas.Grind.{common_steps}
use Rattle.vortex_dtype_fields.proofs.Choices.{in_order}
use borrow.Author.Differences.{ints}
use Rattle.vortex_dtype_fields.proofs.union_variants_ext.tags_in.Goals as goal

pub returns-in_err-tags : goal.returns-in_err-tags
returns-in_err-tags c = grind (arith, (as_err c.from_residual.ensures.0).1)

pub loop-variant-init : goal.loop-variant-init
loop-variant-init c = grind (ints, arith, in_order)

pub offset_bounds-variants-variant-index : goal.offset_bounds-variants-variant-index
offset_bounds-variants-variant-index c = grind (ints, arith, in_order, c.well_formed)

pub returns-in_err-push : goal.returns-in_err-push
returns-in_err-push c = grind (arith, (as_err c.from_residual-in_err-push.ensures.0).1)

pub returns : goal.returns
returns c = grind (ints, arith, common_steps)
