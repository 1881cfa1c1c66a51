use Rattle.std.proofs.Common.{arith, ◌∙◌, ◌∷◌, [], refl, ap, map}
use Rattle.std.proofs.lemmas.List.{map-append}
use Rattle.vortex_dtype_path.specs.View.{step_of}
use Rattle.vortex_dtype_path.specs.Tree.{edge_of}
use Rattle.vortex_dtype_path.proofs.Nodes.{link-write, same-write, on_err}
use Rattle.vortex_dtype_path.proofs.path_tree.link.Goals as goal

pub returns-in_err-push-clause-err : goal.returns-in_err-push-clause-err
returns-in_err-push-clause-err c =
    on_err c.from_residual.result _
    (same-write c.args.nodes.now.items c.args.at c.index_mut.result.now _ (omega (arith, c.requires, c.args.nodes.now.ok.0)) c.index_mut.ensures.value refl (ap (map edge_of) c.in_err-push.ensures.items))

pub returns-clause-ok : goal.returns-clause-ok
returns-clause-ok c =
    link-write c.args.nodes.now.items c.args.at c.index_mut.result.now _ (step_of c.args.edge.step) c.args.edge.node (omega (arith, c.requires, c.args.nodes.now.ok.0)) c.index_mut.ensures.value refl
    (ap (map edge_of) c.in_ok-push.ensures.items ∙ map-append edge_of c.index_mut.result.now.edges.items (c.args.edge ∷ []))
