use Rattle.std.proofs.Common.{◌≡◌, List, ◌++◌, option_map, map, drop}
use Rattle.serde_json.specs.View.{items_view}
use Rattle.vortex_model.specs.Path.{Step}
use Rattle.vortex_dtype_path.specs.View.{step_of}
use Rattle.vortex_table_request.specs.Where.{steps_in}
use Rattle.vortex_table_request.proofs.paths.read_steps.Given as goal

-- the steps so far and those of the rest are the steps of all
abbrev pub invariant-loop-item : goal.invariant-loop-item
invariant-loop-item l = option_map (λ (ss : List Step). map step_of l.steps.items ++ ss) (steps_in (items_view (drop l.item-index l.items))) ≡ steps_in (items_view l.items)
