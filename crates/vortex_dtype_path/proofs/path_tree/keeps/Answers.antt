use Rattle.std.proofs.Common.{◌≡◌, ◌∙◌, ◌<◌, ◌≤◌, sym, ap, is_some, length, get_or}
use Rattle.vortex_dtype_path.proofs.Nodes.{path_at-index, path_at-past, is_some-map}
use Rattle.vortex_dtype_path.proofs.path_tree.keeps.Goals as goal

pub returns-in-Some : goal.returns-in-Some
returns-in-Some c =
    let here : c.in-Some.node.now ≡ get_or c.args.nodes.now c.args.at c.in-Some.node.now = assumption (c.in-Some.ensures.lookup) in
    let low : c.args.at < length c.args.nodes.now = assumption (c.in-Some.ensures.lookup) in
    c.is_some.ensures ∙ sym (is_some-map c.in-Some.node.now.path) ∙ ap is_some (sym (path_at-index c.args.nodes.now c.args.at c.in-Some.node.now low here))

pub returns-in-None : goal.returns-in-None
returns-in-None c =
    let past : length c.args.nodes.now ≤ c.args.at = assumption (c.in-None.ensures.lookup) in
    ap is_some (sym (path_at-past c.args.nodes.now c.args.at past))
