use Rattle.std.proofs.Common.{◌≡◌, take, not}
use Rattle.std.specs.List.{filter}
use Rattle.vortex_dtype_path.specs.Steps.{lies_inside}
use Rattle.vortex_dtype_path.specs.View.{paths_of}
use Rattle.vortex_dtype_path.specs.Tree.{nodes_of, kept_paths}
use Rattle.vortex_dtype_path.proofs.path_tree.outermost_of.Given as goal

abbrev pub invariant-loop-node : goal.invariant-loop-node
invariant-loop-node l = paths_of l.outermost.items ≡ filter (λ p. not (lies_inside (kept_paths (nodes_of l.nodes)) p)) (kept_paths (nodes_of (take l.node-index l.nodes)))
