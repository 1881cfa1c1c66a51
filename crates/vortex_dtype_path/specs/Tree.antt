-- The tree of steps that holds the paths of a set.
use Rattle.std.specs.Prelude.{◌≡◌, ◌<◌, ◌+◌, ◌++◌, ◌||◌, ℕ, zero, suc, List, [], ◌∷◌, length, map, Option, Some, None, option_map, if◌then◌else◌, IsTrue}
use Rattle.std.specs.List.{filter_map}
use Rattle.vortex_model.specs.Path.{Step}
use Rattle.vortex_dtype_path.specs.Steps.{eq_step, eq_steps, is_among}
use Rattle.vortex_dtype_path.specs.View.{step_of, steps_of}
use Rattle.vortex_dtype_path.specs.declared.path_tree.PathNode.{PathNode}
use Rattle.vortex_dtype_path.specs.declared.path_tree.StepEdge.{StepEdge}

-- a node: the path that ends there, where the set has it, and the edges to other nodes
abbrev pub TreeNode : Type 0
TreeNode = Option (List Step) × List (Step × ℕ)

abbrev pub edge_of : StepEdge → Step × ℕ
edge_of edge = (step_of edge.step, edge.node)

abbrev pub node_of : PathNode → TreeNode
node_of node = (option_map steps_of node.path, map edge_of node.edges.items)

abbrev pub nodes_of : List PathNode → List TreeNode
nodes_of nodes = map node_of nodes

-- the node that a step leads to
abbrev pub edge_to : List (Step × ℕ) → Step → Option ℕ
edge_to [] s = None
edge_to (e ∷ es) s = if eq_step e.0 s then Some e.1 else edge_to es s

abbrev pub child_of : List TreeNode → ℕ → Step → Option ℕ
child_of [] i s = None
child_of (n ∷ ns) zero s = edge_to n.1 s
child_of (n ∷ ns) (suc i) s = child_of ns i s

-- the node that steps lead to, where one step leads by `next`
abbrev pub walk : (ℕ → Step → Option ℕ) → Option ℕ → List Step → Option ℕ
walk next None p = None
walk next (Some i) [] = Some i
walk next (Some i) (s ∷ p) = walk next (next i s) p

-- the node that steps lead to from the root
abbrev pub reached : List TreeNode → List Step → Option ℕ
reached nodes p = walk (child_of nodes) (Some 0) p

-- the path that ends at a node
abbrev pub path_at : List TreeNode → ℕ → Option (List Step)
path_at [] k = None
path_at (n ∷ ns) zero = n.0
path_at (n ∷ ns) (suc k) = path_at ns k

-- the paths that end at the nodes
abbrev pub kept_paths : List TreeNode → List (List Step)
kept_paths nodes = filter_map (λ n. n.0) nodes

-- The nodes are a tree of steps: a path ends at the node that its steps lead to, each edge leads to
-- one of the nodes, and no two ways lead to one node.
pub record IsTree (nodes : List TreeNode) : Type 0 where
  pub kept : (k : ℕ) (p : List Step) → path_at nodes k ≡ Some p → reached nodes p ≡ Some k
  pub linked : (i : ℕ) (s : Step) (k : ℕ) → child_of nodes i s ≡ Some k → k < length nodes
  pub single : (p q : List Step) (k : ℕ) → reached nodes p ≡ Some k → reached nodes q ≡ Some k →
      IsTrue (eq_steps p q)

-- new nodes from index n on, each with an edge to the next by one of the steps; the path ends at
-- the last of them
abbrev pub branch : ℕ → List Step → List Step → List TreeNode
branch n p [] = (Some p, []) ∷ []
branch n p (s ∷ rest) = (None, (s, n + 1) ∷ []) ∷ branch (n + 1) p rest

-- node i with one more edge
abbrev pub link : List TreeNode → ℕ → Step → ℕ → List TreeNode
link [] i s k = []
link (n ∷ ns) zero s k = (n.0, n.1 ++ (s, k) ∷ []) ∷ ns
link (n ∷ ns) (suc i) s k = n ∷ link ns i s k

-- node i with a path that ends there
abbrev pub put : List TreeNode → ℕ → List Step → List TreeNode
put [] i p = []
put (n ∷ ns) zero p = (Some p, n.1) ∷ ns
put (n ∷ ns) (suc i) p = n ∷ put ns i p

-- the nodes are a tree, with one more path
pub record AddsPath (old new : List TreeNode) (p : List Step) : Type 0 where
  pub is_tree : IsTree new
  pub added : (q : List Step) → is_among (kept_paths new) q ≡
      (eq_steps q p || is_among (kept_paths old) q)
  pub counted : length (kept_paths new) ≡ length (kept_paths old) + 1
