use Rattle.vortex_dtype_path.specs.Tree.{edge_of}
use Rattle.vortex_dtype_path.proofs.Walks.{pushed}
use Rattle.vortex_dtype_path.proofs.path_tree.copy_edges.Goals as goal

pub loop-edge-preserved : goal.loop-edge-preserved
loop-edge-preserved c =
    pushed edge_of edge_of c.loop-edge.copy.items c.push.new.self.items c.deref-edge-items.result.now c.loop-edge.edge-index c.edge-item.result c.in_ok-clone.field-0
    c.loop-edge-test.true c.edge-item.is c.in_ok-clone.ensures.cases c.in_ok-push.ensures.items c.loop-edge.invariant
