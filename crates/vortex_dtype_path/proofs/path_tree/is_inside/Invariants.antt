use Rattle.std.proofs.Common.{◌≡◌, drop, map, Some}
use Rattle.vortex_dtype_path.specs.View.{step_of}
use Rattle.vortex_dtype_path.specs.Tree.{nodes_of}
use Rattle.vortex_dtype_path.proofs.Inside.{met}
use Rattle.vortex_dtype_path.proofs.path_tree.is_inside.Given as goal

abbrev pub invariant-loop-step : goal.invariant-loop-step
invariant-loop-step l = met (nodes_of l.nodes) (Some l.at) (map step_of (drop l.step-index l.steps)) ≡ met (nodes_of l.nodes) (Some 0) (map step_of l.steps)
