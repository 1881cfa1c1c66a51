use Rattle.vortex_dtype_path.specs.Tree.{node_of}
use Rattle.vortex_dtype_path.proofs.Walks.{pushed}
use Rattle.vortex_dtype_path.proofs.path_tree.copy_nodes.Goals as goal

pub loop-node-preserved : goal.loop-node-preserved
loop-node-preserved c =
    pushed node_of node_of c.loop-node.copy.items c.push.new.self.items c.deref-node-items.result.now c.loop-node.node-index c.node-item.result c.in_ok-clone.field-0
    c.loop-node-test.true c.node-item.is c.in_ok-clone.ensures.cases c.in_ok-push.ensures.items c.loop-node.invariant
