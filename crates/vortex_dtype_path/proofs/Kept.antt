-- The paths of a tree, and the nodes where they end.
use Rattle.std.proofs.Math.Bool.{or-true}
use Rattle.std.proofs.Common.{◌≡◌, refl, sym, ap, subst, ◌∙◌, ◌≤◌, arith, ℕ, zero, suc, Bool, true, false, ◌||◌, List, [], ◌∷◌, length, Option, Some, None, is_some, option_map}
use Rattle.std.specs.List.{AllByRecursion, IsDistinct, cons_option}
use Rattle.vortex_model.specs.Path.{Step}
use Rattle.vortex_dtype_path.specs.Steps.{eq_steps, eq_steps_equiv, is_among, AreDistinct}
use Rattle.vortex_dtype_path.specs.View.{steps_of, paths_of}
use Rattle.vortex_dtype_path.specs.Sets.{paths_in}
use Rattle.vortex_dtype_path.specs.Tree.{TreeNode, nodes_of, reached, path_at, kept_paths, IsTree}
use Rattle.vortex_dtype_path.specs.declared.path.FieldPath.{FieldPath}
use Rattle.vortex_dtype_path.specs.declared.path_tree.PathNode.{PathNode}
use Rattle.vortex_dtype_path.proofs.Steps.{eq_steps-decides}

among_more : (o : Option (List Step)) (ps : List (List Step)) (p : List Step) → is_among ps p ≡ true → is_among (cons_option o ps) p ≡ true
among_more None ps p e = e
among_more (Some r) ps p e = ap (λ b. eq_steps p r || b) e ∙ or-true (eq_steps p r)

pub at_among : (nodes : List TreeNode) (k : ℕ) (p : List Step) → path_at nodes k ≡ Some p → is_among (kept_paths nodes) p ≡ true
at_among [] k p e = absurd (cc (e))
at_among (n ∷ ns) zero p e = ap (λ o. is_among (cons_option o (kept_paths ns)) p) e ∙ ap (λ b. b || is_among (kept_paths ns) p) (eq_steps_equiv.refl p)
at_among (n ∷ ns) (suc k) p e = among_more n.0 (kept_paths ns) p (at_among ns k p e)

-- the path ends at a node
abbrev pub IsAt : List TreeNode → List Step → Type 0
IsAt nodes p = (k : ℕ) × (path_at nodes k ≡ Some p)

at_here : (n : TreeNode) (ns : List TreeNode) (p r : List Step) (b : Bool) → n.0 ≡ Some r → eq_steps p r ≡ b → (b || is_among (kept_paths ns) p) ≡ true → (is_among (kept_paths ns) p ≡ true → IsAt ns p) → IsAt (n ∷ ns) p
at_here n ns p r true q e h rest = (0, q ∙ ap Some (sym ((eq_steps-decides p r).0 e)))
at_here n ns p r false q e h rest = let found = rest h in (suc found.0, found.1)

at_first : (n : TreeNode) (ns : List TreeNode) (p : List Step) (o : Option (List Step)) → n.0 ≡ o → is_among (cons_option o (kept_paths ns)) p ≡ true → (is_among (kept_paths ns) p ≡ true → IsAt ns p) → IsAt (n ∷ ns) p
at_first n ns p None q h rest = let found = rest h in (suc found.0, found.1)
at_first n ns p (Some r) q h rest = at_here n ns p r (eq_steps p r) q refl h rest

pub among_at : (nodes : List TreeNode) (p : List Step) → is_among (kept_paths nodes) p ≡ true → IsAt nodes p
among_at [] p h = absurd (cc (h))
among_at (n ∷ ns) p h = at_first n ns p n.0 refl h (among_at ns p)

-- a path ends at the node that its steps lead to
among_where : (nodes : List TreeNode) → IsTree nodes → (p : List Step) (k : ℕ) → reached nodes p ≡ Some k → is_among (kept_paths nodes) p ≡ true → path_at nodes k ≡ Some p
among_where nodes t p k e h =
    let found = among_at nodes p h in
    let same : found.0 ≡ k = cc (t.kept found.0 p found.1, e) in
    subst (λ m. path_at nodes m ≡ Some p) same found.1

not_among : (b : Bool) → (b ≡ true → ⊥) → false ≡ b
not_among true n = absurd (n refl)
not_among false n = refl

found_on : (nodes : List TreeNode) → IsTree nodes → (p : List Step) (k : ℕ) (o : Option (List Step)) → path_at nodes k ≡ o → reached nodes p ≡ Some k → is_some o ≡ is_among (kept_paths nodes) p
found_on nodes t p k None q e = not_among (is_among (kept_paths nodes) p) (λ h. absurd (cc (q, among_where nodes t p k e h)))
found_on nodes t p k (Some r) q e =
    let same : p ≡ r = (eq_steps-decides p r).0 (t.single p r k e (t.kept k r q)) in
    sym (ap (λ l. is_among (kept_paths nodes) l) same ∙ at_among nodes k r q)

pub found : (nodes : List TreeNode) → IsTree nodes → (p : List Step) (k : ℕ) → reached nodes p ≡ Some k → is_some (path_at nodes k) ≡ is_among (kept_paths nodes) p
found nodes t p k e = found_on nodes t p k (path_at nodes k) refl e

pub not_found : (nodes : List TreeNode) → IsTree nodes → (p : List Step) → reached nodes p ≡ None → false ≡ is_among (kept_paths nodes) p
not_found nodes t p e = not_among (is_among (kept_paths nodes) p) (λ h. let there = among_at nodes p h in absurd (cc (e, t.kept there.0 p there.1)))

-- no path ends at two nodes
abbrev OneEach : List TreeNode → Type 0
OneEach nodes = (j k : ℕ) (p : List Step) → path_at nodes j ≡ Some p → path_at nodes k ≡ Some p → j ≡ k

neither : (a b : Bool) → false ≡ (a || b) → (a ≡ false) × (false ≡ b)
neither true b h = absurd (cc (h))
neither false b h = (refl, h)

none_equal : (ps : List (List Step)) (p : List Step) → false ≡ is_among ps p → AllByRecursion (λ y. eq_steps p y ≡ false) ps
none_equal [] p h = tt
none_equal (x ∷ ps) p h = let both = neither (eq_steps p x) (is_among ps p) h in (both.0, none_equal ps p both.1)

first_alone : (n : TreeNode) (ns : List TreeNode) → OneEach (n ∷ ns) → (o : Option (List Step)) → n.0 ≡ o → AreDistinct (kept_paths ns) → AreDistinct (cons_option o (kept_paths ns))
unfolding IsDistinct
first_alone n ns one None q rest = rest
first_alone n ns one (Some p) q rest =
    (none_equal (kept_paths ns) p (not_among (is_among (kept_paths ns) p) (λ h. let there = among_at ns p h in absurd (omega (arith, one 0 (suc there.0) p q there.1)))), rest)

one_each : (nodes : List TreeNode) → OneEach nodes → AreDistinct (kept_paths nodes)
unfolding IsDistinct
one_each [] one = tt
one_each (n ∷ ns) one = first_alone n ns one n.0 refl (one_each ns (λ j k p e f. omega (arith, one (suc j) (suc k) p e f)))

pub distinct : (nodes : List TreeNode) → IsTree nodes → AreDistinct (kept_paths nodes)
distinct nodes t = one_each nodes (λ j k p e f. cc (t.kept j p e, t.kept k p f))

-- there are no more paths than nodes
one_more : (o : Option (List Step)) (ps : List (List Step)) (n : ℕ) → length ps ≤ n → length (cons_option o ps) ≤ suc n
one_more None ps n h = omega arith
one_more (Some p) ps n h = omega arith

pub no_more : (nodes : List TreeNode) → length (kept_paths nodes) ≤ length nodes
no_more [] = omega arith
no_more (n ∷ ns) = one_more n.0 (kept_paths ns) (length ns) (no_more ns)

-- the paths of the model
steps_of-cons : (o : Option FieldPath) (ps : List FieldPath) → paths_of (cons_option o ps) ≡ cons_option (option_map steps_of o) (paths_of ps)
steps_of-cons None ps = refl
steps_of-cons (Some p) ps = refl

pub paths_of-in : (nodes : List PathNode) → paths_of (paths_in nodes) ≡ kept_paths (nodes_of nodes)
paths_of-in [] = refl
paths_of-in (n ∷ ns) = steps_of-cons n.path (paths_in ns) ∙ ap (λ ps. cons_option (option_map steps_of n.path) ps) (paths_of-in ns)
