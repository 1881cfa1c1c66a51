-- A branch that is added to a node.
use Rattle.std.proofs.Common.{◌≡◌, refl, sym, ap, subst, ◌∙◌, add-one, append_assoc, map, option_map, ◌<◌, ◌+◌, arith, ℕ, zero, suc, Bool, true, false, if◌then◌else◌, List, [], ◌∷◌, ◌++◌, length, take, drop, slice_get, Some, None, Result, Ok, Err, is_ok, is_err}
use Rattle.std.specs.Bool.{OnTrue}
use Rattle.std.proofs.lemmas.List.{length-map, map-append}
use Rattle.vortex_model.specs.Path.{Step}
use Rattle.vortex_dtype_path.specs.View.{steps_of}
use Rattle.vortex_dtype_path.specs.Tree.{TreeNode, nodes_of, node_of, edge_of, child_of, reached, IsTree, AddsPath, branch, link}
use Rattle.vortex_dtype_path.specs.declared.path_tree.PathNode.{PathNode}
use Rattle.vortex_dtype_path.proofs.Grown.{hung_adds}
use Rattle.vortex_dtype_path.proofs.Nodes.{three_parts}

pub hung_whole : (old new linked reserved more : List PathNode) (at n taken : ℕ) (s : Step) (p : List Step) → IsTree (nodes_of old) → n ≡ length old → at < length old → taken < length p → reached (nodes_of old) (take taken p) ≡ Some at →
    ((t : Step) → slice_get p taken ≡ Some t → child_of (nodes_of old) at t ≡ None) → slice_get p taken ≡ Some s → nodes_of linked ≡ link (nodes_of reserved) at s n → reserved ≡ old → nodes_of more ≡ branch n p (drop (taken + 1) p) → new ≡ linked ++ more → AddsPath (nodes_of old) (nodes_of new) p
hung_whole old new linked reserved more at n taken s p tree e h part led ends read a r b w =
    let parts = three_parts p taken part in
    let same : parts.0 ≡ s = cc (parts.1, read) in
    let len = length-map old node_of in
    let front : nodes_of linked ≡ link (nodes_of old) at s n = a ∙ ap (λ (l : List PathNode). link (nodes_of l) at s n) r in
    let back : nodes_of more ≡ branch n p (drop (suc taken) p) = b ∙ ap (λ (m : ℕ). branch n p (drop m p)) (add-one taken) in
    let all : nodes_of new ≡ link (nodes_of old) at s n ++ branch n p (drop (suc taken) p) = ap nodes_of w ∙ map-append node_of linked more ∙ (λ i. front i ++ back i) in
    subst (λ l. AddsPath (nodes_of old) l p) (sym all)
    (hung_adds (nodes_of old) at s n (take taken p) p (drop (suc taken) p) tree (omega (arith, e, len)) (omega (arith, h, len)) led (ends s read) (parts.2 ∙ ap (λ (x : Step). take taken p ++ x ∷ drop (suc taken) p) same))

pub ok_then : {T E : Type 0} (r : Result T E) → is_err r ≡ false → is_ok r ≡ true
ok_then (Ok x) e = refl
ok_then (Err x) e = absurd (cc (e))

pub where_so : {X : Type 0} (b : Bool) (x y z : X) → x ≡ (if b then y else z) → b ≡ true → x ≡ y
where_so true x y z e h = e
where_so false x y z e h = absurd (cc (h))

pub on_true : (b : Bool) (P : Type 0) → OnTrue b P → b ≡ true → P
on_true true P p e = p
on_true false P p e = absurd (cc (e))

drop_at : (p : List Step) (i : ℕ) (s : Step) → slice_get p i ≡ Some s → drop i p ≡ s ∷ drop (suc i) p
drop_at [] i s e = absurd (cc (e))
drop_at (t ∷ p) zero s e = let same : t ≡ s = cc (e) in λ j. same j ∷ p
drop_at (t ∷ p) (suc i) s e = drop_at p i s e

-- one more node of a branch
pub branch_more : (ns new : List PathNode) (x : PathNode) (p : List Step) (first n i : ℕ) (s : Step) (all : List TreeNode) → new ≡ ns ++ x ∷ [] → x.path ≡ None → map edge_of x.edges.items ≡ (s, first + n + 1) ∷ [] → slice_get p i ≡ Some s →
    nodes_of ns ++ branch (first + n) p (drop i p) ≡ all → nodes_of new ++ branch (first + (n + 1)) p (drop (i + 1) p) ≡ all
branch_more ns new x p first n i s all w none edge read e =
    let rest = branch (first + (n + 1)) p (drop (i + 1) p) in
    let path : option_map steps_of x.path ≡ None = ap (option_map steps_of) none in
    let number : first + (n + 1) ≡ first + n + 1 = omega (arith) in
    let next : i + 1 ≡ suc i = add-one i in
    let here : nodes_of (x ∷ []) ++ rest ≡ branch (first + n) p (s ∷ drop (suc i) p) = λ j. (path j, edge j) ∷ branch (number j) p (drop (next j) p) in
    ap (λ l. nodes_of l ++ rest) w ∙ ap (λ l. l ++ rest) (map-append node_of ns (x ∷ [])) ∙ append_assoc (nodes_of ns) (nodes_of (x ∷ [])) rest
    ∙ ap (λ l. nodes_of ns ++ l) (here ∙ ap (branch (first + n) p) (sym (drop_at p i s read))) ∙ e
