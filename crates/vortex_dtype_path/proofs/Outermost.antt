-- The outermost paths, node by node.
use Rattle.std.proofs.Common.{◌≡◌, sym, ap, ◌∙◌, ◌<◌, ◌+◌, ℕ, Bool, List, [], ◌∷◌, ◌++◌, length, take, get_or}
use Rattle.std.specs.List.{filter}
use Rattle.std.proofs.lemmas.Grind.{take_at_read}
use Rattle.std.proofs.lemmas.List.{map-append}
use Rattle.std.proofs.lemmas.List.Elements.{filter-append, filter_map-append}
use Rattle.vortex_model.specs.Path.{Step}
use Rattle.vortex_dtype_path.specs.Tree.{TreeNode, nodes_of, node_of, kept_paths}
use Rattle.vortex_dtype_path.specs.declared.path_tree.PathNode.{PathNode}

-- one more node
pub one_further : (t : List Step → Bool) (nodes : List PathNode) (i : ℕ) (d : PathNode) (old new : List (List Step)) → i < length nodes → d ≡ get_or nodes i d → old ≡ filter t (kept_paths (nodes_of (take i nodes))) → new ≡ old ++ filter t (kept_paths (nodes_of (d ∷ []))) →
    new ≡ filter t (kept_paths (nodes_of (take (i + 1) nodes)))
one_further t nodes i d old new h read e w =
    let front = nodes_of (take i nodes) in
    let last = nodes_of (d ∷ []) in
    let taken = (take_at_read nodes i d h).1 ∙ ap (λ (x : PathNode). take i nodes ++ x ∷ []) (sym read) in
    w ∙ ap (λ l. l ++ filter t (kept_paths last)) e ∙ sym (filter-append t (kept_paths front) (kept_paths last))
    ∙ ap (filter t) (sym (filter_map-append (λ (n : TreeNode). n.0) front last))
    ∙ ap (λ l. filter t (kept_paths l)) (sym (map-append node_of (take i nodes) (d ∷ [])))
    ∙ ap (λ l. filter t (kept_paths (nodes_of l))) (sym taken)
