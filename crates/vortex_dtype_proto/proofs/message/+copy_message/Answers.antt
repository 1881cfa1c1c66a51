use Rattle.std.proofs.Common.{ap, ◌∙◌, map, arith}
use Rattle.vortex_dtype_proto.specs.View.{tree_of}
use Rattle.vortex_dtype_proto.proofs.Parts.{copied, all_taken}
use Rattle.vortex_dtype_proto.proofs.message.+copy_message.Goals as goal

pub returns : goal.returns
returns t c =
    c.node.ensures
    ∙ copied c.args.message.now c.in_ok-kind.kind c.loop-child.children.items c.in_ok-kind.ensures.cases
    (c.loop-child.invariant ∙ all_taken tree_of c.deref-child-items.result.now c.loop-child.child-index (omega arith) ∙ ap (λ ms. map tree_of ms) c.deref-child-items.ensures.value)
