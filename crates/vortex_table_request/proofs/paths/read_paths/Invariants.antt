use Rattle.std.proofs.Common.{◌≡◌, List, ◌++◌, option_map, map, drop}
use Rattle.serde_json.specs.View.{items_view}
use Rattle.vortex_model.specs.Path.{Step}
use Rattle.vortex_dtype_path.specs.View.{steps_of}
use Rattle.vortex_table_request.specs.Where.{paths_in}
use Rattle.vortex_table_request.proofs.paths.read_paths.Given as goal

-- the paths so far and those of the rest are the paths of all
abbrev pub invariant-loop-item : goal.invariant-loop-item
invariant-loop-item l =
    option_map (λ (ps : List (List Step)). map steps_of l.paths.items ++ ps) (paths_in (items_view (drop l.item-index l.items))) ≡ paths_in (items_view l.items)
