use Rattle.std.proofs.Common.{rules, arith}
use Rattle.std.proofs.lemmas.Grind.{common_steps}
use Rattle.vortex_dtype_proto.proofs.nodes.narrow_tags.Goals as goal

pub returns-in_err-narrow : goal.returns-in_err-narrow
returns-in_err-narrow c = search rules

pub loop-tag-init : goal.loop-tag-init
loop-tag-init c = search rules

pub offset_bounds-tags-tag-index : goal.offset_bounds-tags-tag-index
offset_bounds-tags-tag-index c = search rules

pub returns-in_default : goal.returns-in_default
returns-in_default c = grind (arith, common_steps)

pub returns-in_err-push : goal.returns-in_err-push
returns-in_err-push c = search rules

pub loop-tag-preserved : goal.loop-tag-preserved
loop-tag-preserved c = grind (arith, common_steps)

pub returns : goal.returns
returns c = grind (arith, common_steps)
