use Rattle.std.proofs.Common.{◌≡◌, ◌+◌, ◌++◌, drop}
use Rattle.std.specs.Vec.{vec_len}
use Rattle.vortex_dtype_path.specs.View.{steps_of}
use Rattle.vortex_dtype_path.specs.Tree.{nodes_of, branch}
use Rattle.vortex_dtype_path.proofs.path_tree.branch_of.Given as goal

abbrev pub invariant-loop-i : goal.invariant-loop-i
invariant-loop-i l = record {
  so_far : nodes_of l.nodes.items ++ branch (l.first + vec_len l.nodes) (steps_of l.fn.path) (drop l.i (steps_of l.fn.path)) ≡ branch l.first (steps_of l.fn.path) (drop l.from (steps_of l.fn.path));
  as_many : vec_len l.nodes + l.from ≡ l.i;
}
