-- The paths of a set.
use Rattle.std.specs.Prelude.{◌≡◌, ℕ, length, List, Bool}
use Rattle.std.specs.List.{filter_map}
use Rattle.vortex_model.specs.Path.{Step}
use Rattle.vortex_dtype_path.specs.Steps.{is_among, AreDistinct}
use Rattle.vortex_dtype_path.specs.Tree.{nodes_of, kept_paths}
use Rattle.vortex_dtype_path.specs.declared.path.FieldPath.{FieldPath}
use Rattle.vortex_dtype_path.specs.declared.path_tree.PathNode.{PathNode}
use Rattle.vortex_dtype_path.specs.declared.path_set.FieldPathSet.{FieldPathSet}
use Rattle.vortex_dtype_path.specs.declared.path_set.FieldPathSetIter.{FieldPathSetIter}

-- the path is in the set: it ends at a node of the tree
abbrev pub is_inserted : FieldPathSet → List Step → Bool
is_inserted set = is_among (kept_paths (nodes_of set.nodes.items))

-- the set has n paths
abbrev pub Counts : FieldPathSet → ℕ → Type 0
Counts set n = (paths : List (List Step)) × AreDistinct paths ×
    ((q : List Step) → is_among paths q ≡ is_inserted set q) × (length paths ≡ n)

-- the paths that end at these nodes
abbrev pub paths_in : List PathNode → List FieldPath
paths_in nodes = filter_map (λ node. node.path) nodes

abbrev pub paths_left : FieldPathSetIter → List FieldPath
paths_left it = paths_in it.rest.now
