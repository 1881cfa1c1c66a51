use Rattle.std.proofs.Common.{not}
use Rattle.vortex_dtype_path.specs.Steps.{lies_inside}
use Rattle.vortex_dtype_path.specs.View.{paths_of}
use Rattle.vortex_dtype_path.specs.Tree.{nodes_of, kept_paths}
use Rattle.vortex_dtype_path.proofs.Outermost.{one_further}
use Rattle.vortex_dtype_path.proofs.path_tree.outermost_of.Goals as goal

pub loop-node-preserved : goal.loop-node-preserved
loop-node-preserved c =
    one_further (λ p. not (lies_inside (kept_paths (nodes_of c.args.nodes.now)) p)) c.args.nodes.now c.loop-node.node-index c.node-item.result (paths_of c.loop-node.outermost.items) (paths_of c.add_outermost.new.outermost.items)
    c.loop-node-test.true c.node-item.is c.loop-node.invariant c.in_ok-add_outermost.ensures
