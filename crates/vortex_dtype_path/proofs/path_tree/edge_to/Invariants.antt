use Rattle.std.proofs.Common.{◌≡◌, drop, map}
use Rattle.vortex_dtype_path.specs.View.{step_of}
use Rattle.vortex_dtype_path.specs.Tree.{edge_of, edge_to}
use Rattle.vortex_dtype_path.proofs.path_tree.edge_to.Given as goal

abbrev pub invariant-loop-edge : goal.invariant-loop-edge
invariant-loop-edge l = edge_to (map edge_of (drop l.edge-index l.edges)) (step_of l.step) ≡ edge_to (map edge_of l.edges) (step_of l.step)
