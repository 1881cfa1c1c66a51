use Rattle.std.proofs.Common.{◌∙◌, sym, ap, map, arith}
use Rattle.std.proofs.lemmas.List.{length-map}
use Rattle.vortex_dtype_path.specs.View.{step_of}
use Rattle.vortex_dtype_path.specs.Tree.{nodes_of, reached}
use Rattle.vortex_dtype_path.proofs.Kept.{found, not_found}
use Rattle.vortex_dtype_path.proofs.Nodes.{stopped, whole}
use Rattle.vortex_dtype_path.proofs.path_tree.is_kept.Goals as goal

pub returns-then-taken-steps : goal.returns-then-taken-steps
returns-then-taken-steps c =
    let steps = map step_of c.args.steps.now in
    let len = length-map c.args.steps.now step_of in
    not_found (nodes_of c.args.nodes.now) c.requires steps
    (stopped (nodes_of c.args.nodes.now) steps c.walk_down-at.result.1 c.walk_down-at.result.0 (omega (arith, len, c.if-taken-steps.true)) c.walk_down-at.ensures.led c.walk_down-at.ensures.ends)

pub returns : goal.returns
returns c =
    let steps = map step_of c.args.steps.now in
    let len = length-map c.args.steps.now step_of in
    let all = whole steps c.walk_down-at.result.1 (omega (arith, len, c.if-taken-steps.false)) in
    c.keeps.ensures ∙ found (nodes_of c.args.nodes.now) c.requires steps c.walk_down-at.result.0 (ap (reached (nodes_of c.args.nodes.now)) (sym all) ∙ c.walk_down-at.ensures.led)
