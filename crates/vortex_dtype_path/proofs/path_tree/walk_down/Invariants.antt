use Rattle.std.proofs.Common.{◌≡◌, take, map, Some}
use Rattle.vortex_dtype_path.specs.View.{step_of}
use Rattle.vortex_dtype_path.specs.Tree.{nodes_of, reached}
use Rattle.vortex_dtype_path.proofs.path_tree.walk_down.Given as goal

abbrev pub invariant-loop-taken : goal.invariant-loop-taken
invariant-loop-taken l = reached (nodes_of l.nodes) (take l.taken (map step_of l.steps)) ≡ Some l.at
