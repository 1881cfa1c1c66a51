use Rattle.std.proofs.Common.{◌∙◌, sym, refl, map, arith}
use Rattle.vortex_dtype_path.specs.View.{step_of}
use Rattle.vortex_dtype_path.specs.Tree.{nodes_of}
use Rattle.vortex_dtype_path.proofs.Inside.{met_step, met_done, met_inside}
use Rattle.vortex_dtype_path.proofs.path_tree.is_inside.Goals as goal

pub returns-then-keeps : goal.returns-then-keeps
returns-then-keeps c =
    let nodes = nodes_of c.args.nodes.now in
    sym (met_step nodes c.args.steps.now c.loop-step.step-index c.step-item.result c.loop-step.at _ _ c.loop-step-test.true c.step-item.is (sym c.keeps.ensures ∙ c.if-keeps.true) refl)
    ∙ c.loop-step.invariant ∙ met_inside nodes c.requires (map step_of c.args.steps.now)

pub returns-in-None : goal.returns-in-None
returns-in-None c =
    let nodes = nodes_of c.args.nodes.now in
    sym (met_step nodes c.args.steps.now c.loop-step.step-index c.step-item.result c.loop-step.at _ _ c.loop-step-test.true c.step-item.is (sym c.keeps.ensures ∙ c.if-keeps.false) (sym c.in-None.ensures))
    ∙ c.loop-step.invariant ∙ met_inside nodes c.requires (map step_of c.args.steps.now)

pub returns : goal.returns
returns c =
    let nodes = nodes_of c.args.nodes.now in
    sym (met_done nodes c.args.steps.now c.loop-step.step-index c.loop-step.at (omega (arith, c.loop-step-test.false)))
    ∙ c.loop-step.invariant ∙ met_inside nodes c.requires (map step_of c.args.steps.now)
