use Rattle.std.proofs.Common.{◌≡◌, take}
use Rattle.vortex_dtype_path.specs.Tree.{nodes_of}
use Rattle.vortex_dtype_path.proofs.path_tree.copy_nodes.Given as goal

abbrev pub invariant-loop-node : goal.invariant-loop-node
invariant-loop-node l = nodes_of l.copy.items ≡ nodes_of (take l.node-index l.node-items)
