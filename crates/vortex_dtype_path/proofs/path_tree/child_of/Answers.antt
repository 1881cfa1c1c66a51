use Rattle.std.proofs.Common.{◌≡◌, ◌∙◌, ◌<◌, ◌≤◌, sym, ap, map, length, get_or}
use Rattle.vortex_dtype_path.specs.View.{step_of}
use Rattle.vortex_dtype_path.specs.Tree.{edge_of, edge_to}
use Rattle.vortex_dtype_path.proofs.Nodes.{child_of-index, child_of-past}
use Rattle.vortex_dtype_path.proofs.path_tree.child_of.Goals as goal

pub returns-in-Some : goal.returns-in-Some
returns-in-Some c =
    let here : c.in-Some.node.now ≡ get_or c.args.nodes.now c.args.at c.in-Some.node.now = assumption (c.in-Some.ensures.lookup) in
    let low : c.args.at < length c.args.nodes.now = assumption (c.in-Some.ensures.lookup) in
    c.edge_to.ensures ∙ ap (λ es. edge_to (map edge_of es) (step_of c.args.step.now)) c.as_slice.ensures.value ∙ sym (child_of-index c.args.nodes.now c.args.at (step_of c.args.step.now) c.in-Some.node.now low here)

pub returns-in-None : goal.returns-in-None
returns-in-None c =
    let past : length c.args.nodes.now ≤ c.args.at = assumption (c.in-None.ensures.lookup) in
    sym (child_of-past c.args.nodes.now c.args.at (step_of c.args.step.now) past)
