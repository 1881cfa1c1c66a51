use Rattle.std.proofs.Common.{arith, refl, sym, subst}
use Rattle.vortex_dtype_path.specs.View.{steps_of}
use Rattle.vortex_dtype_path.specs.Tree.{AddsPath, nodes_of}
use Rattle.vortex_dtype_path.proofs.Nodes.{put-write, length-nodes}
use Rattle.vortex_dtype_path.proofs.Grown.{put_adds}
use Rattle.vortex_dtype_path.proofs.path_tree.keep.Goals as goal

pub returns : goal.returns
returns c =
    let nodes = nodes_of c.args.nodes.now.items in
    subst (λ new. AddsPath nodes new (steps_of c.args.path))
    (sym (put-write c.args.nodes.now.items c.args.at c.index_mut.result.now _ c.args.path (omega (arith, c.requires.there, c.args.nodes.now.ok.0)) c.index_mut.ensures.value refl refl))
    (put_adds nodes c.args.at (steps_of c.args.path) c.requires.tree c.requires.ends (length-nodes c.args.nodes.now.items c.args.at (omega (arith, c.requires.there, c.args.nodes.now.ok.0))) c.requires.free)
