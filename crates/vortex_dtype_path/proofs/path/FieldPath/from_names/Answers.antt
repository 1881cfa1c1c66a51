use Rattle.std.proofs.Common.{arith}
use Rattle.std.proofs.lemmas.Grind.{common_steps}
use Rattle.std.below.core.proofs.iter.Serving.{as_err}
use Rattle.vortex_dtype_path.proofs.path.FieldPath.from_names.Goals as goal

pub new-requires-text-text : goal.new-requires-text-text
new-requires-text-text c κs = grind (arith, common_steps)

pub returns-in_err-push : goal.returns-in_err-push
returns-in_err-push c = grind (arith, (as_err c.from_residual-in_err-push.ensures.0).1)

pub offset_bounds-names-text-index : goal.offset_bounds-names-text-index
offset_bounds-names-text-index c = grind (arith, common_steps)

pub loop-text-preserved : goal.loop-text-preserved
loop-text-preserved c = grind (arith, common_steps)

pub returns-in_err-parts : goal.returns-in_err-parts
returns-in_err-parts c = grind (arith, (as_err c.from_residual.ensures.0).1)

pub returns : goal.returns
returns c = grind (arith, common_steps)

pub loop-text-init : goal.loop-text-init
loop-text-init c = grind (arith, common_steps)

pub slice_bounds-new-end : goal.slice_bounds-new-end
slice_bounds-new-end c = grind (arith, common_steps)

pub returns-in_err-name : goal.returns-in_err-name
returns-in_err-name c = grind (arith, (as_err c.from_residual-in_err-name.ensures.0).1)
