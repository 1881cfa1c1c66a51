use Rattle.std.proofs.Common.{◌≡◌, take, map}
use Rattle.vortex_dtype_path.specs.Tree.{edge_of}
use Rattle.vortex_dtype_path.proofs.path_tree.copy_edges.Given as goal

abbrev pub invariant-loop-edge : goal.invariant-loop-edge
invariant-loop-edge l = map edge_of l.copy.items ≡ map edge_of (take l.edge-index l.edge-items)
