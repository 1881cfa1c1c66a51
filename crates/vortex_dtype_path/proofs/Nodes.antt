-- Nodes in the model, with one of them read or written.
use Rattle.std.proofs.Common.{◌≡◌, refl, sym, ap, ◌∙◌, add-one, Result, Ok, Err, OnErr, ◌<◌, ◌≤◌, ◌+◌, arith, ℕ, zero, suc, List, [], ◌∷◌, ◌++◌, length, map, get_or, set, take, drop, slice_get, Option, Some, None, is_some, option_map, option_and_then}
use Rattle.std.proofs.lemmas.List.{length-map}
use Rattle.vortex_model.specs.Path.{Step}
use Rattle.vortex_dtype_path.specs.View.{step_of, steps_of}
use Rattle.vortex_dtype_path.specs.Tree.{TreeNode, nodes_of, node_of, edge_of, edge_to, child_of, walk, reached, path_at, IsTree, link, put}
use Rattle.vortex_dtype_path.specs.declared.field.Field.{Field}
use Rattle.vortex_dtype_path.specs.declared.path.FieldPath.{FieldPath}
use Rattle.vortex_dtype_path.specs.declared.path_tree.PathNode.{PathNode}
use Rattle.vortex_dtype_path.proofs.Walked.{walk-append, walked_on, ends_inside}

pub path_at-read : (nodes : List PathNode) (k : ℕ) → path_at (nodes_of nodes) k ≡ option_and_then (λ n. option_map steps_of n.path) (slice_get nodes k)
path_at-read [] k = refl
path_at-read (n ∷ ns) zero = refl
path_at-read (n ∷ ns) (suc k) = path_at-read ns k

pub child_of-read : (nodes : List PathNode) (k : ℕ) (s : Step) → child_of (nodes_of nodes) k s ≡ option_and_then (λ n. edge_to (map edge_of n.edges.items) s) (slice_get nodes k)
child_of-read [] k s = refl
child_of-read (n ∷ ns) zero s = refl
child_of-read (n ∷ ns) (suc k) s = child_of-read ns k s

pub is_some-map : (o : Option FieldPath) → is_some (option_map steps_of o) ≡ is_some o
is_some-map None = refl
is_some-map (Some p) = refl

pub link-write : (nodes : List PathNode) (at : ℕ) (d x : PathNode) (s : Step) (n : ℕ) → at < length nodes → d ≡ get_or nodes at d → x.path ≡ d.path → map edge_of x.edges.items ≡ map edge_of d.edges.items ++ (s, n) ∷ [] → nodes_of (set nodes at x) ≡ link (nodes_of nodes) at s n
link-write [] at d x s n h r p e = absurd (omega (arith, h))
link-write (y ∷ ys) zero d x s n h r p e =
    let same : option_map steps_of x.path ≡ option_map steps_of y.path = ap (option_map steps_of) (p ∙ ap (λ (z : PathNode). z.path) r) in
    let more : map edge_of x.edges.items ≡ map edge_of y.edges.items ++ (s, n) ∷ [] = e ∙ ap (λ (z : PathNode). map edge_of z.edges.items ++ (s, n) ∷ []) r in
    λ i. (same i, more i) ∷ nodes_of ys
link-write (y ∷ ys) (suc at) d x s n h r p e = ap (λ l. node_of y ∷ l) (link-write ys at d x s n (omega (arith, h)) r p e)

pub put-write : (nodes : List PathNode) (at : ℕ) (d x : PathNode) (path : FieldPath) → at < length nodes → d ≡ get_or nodes at d → x.path ≡ Some path → map edge_of x.edges.items ≡ map edge_of d.edges.items → nodes_of (set nodes at x) ≡ put (nodes_of nodes) at (steps_of path)
put-write [] at d x path h r p e = absurd (omega (arith, h))
put-write (y ∷ ys) zero d x path h r p e =
    let same : option_map steps_of x.path ≡ Some (steps_of path) = ap (option_map steps_of) p in
    let more : map edge_of x.edges.items ≡ map edge_of y.edges.items = e ∙ ap (λ (z : PathNode). map edge_of z.edges.items) r in
    λ i. (same i, more i) ∷ nodes_of ys
put-write (y ∷ ys) (suc at) d x path h r p e = ap (λ l. node_of y ∷ l) (put-write ys at d x path (omega (arith, h)) r p e)

-- a path split at one of its steps
pub three_parts : (p : List Step) (i : ℕ) → i < length p → (s : Step) × (slice_get p i ≡ Some s) × (p ≡ take i p ++ s ∷ drop (suc i) p)
three_parts [] i h = absurd (omega (arith, h))
three_parts (s ∷ p) zero h = (s, refl, refl)
three_parts (s ∷ p) (suc i) h = let rest = three_parts p i (omega (arith, h)) in (rest.0, rest.1, ap (λ l. s ∷ l) rest.2)

nothing : (next : ℕ → Step → Option ℕ) (p : List Step) → walk next None p ≡ None
nothing next p = refl

-- a way that ends early leads to no node
pub stopped : (nodes : List TreeNode) (p : List Step) (i k : ℕ) → i < length p → reached nodes (take i p) ≡ Some k → ((s : Step) → slice_get p i ≡ Some s → child_of nodes k s ≡ None) → reached nodes p ≡ None
stopped nodes p i k h e f =
    let parts = three_parts p i h in
    ap (reached nodes) parts.2
    ∙ walk-append (child_of nodes) (Some 0) (take i p) (parts.0 ∷ drop (suc i) p)
    ∙ ap (λ o. walk (child_of nodes) o (parts.0 ∷ drop (suc i) p)) e
    ∙ ap (λ o. walk (child_of nodes) o (drop (suc i) p)) (f parts.0 parts.1)
    ∙ nothing (child_of nodes) (drop (suc i) p)

pub whole : (p : List Step) (i : ℕ) → length p ≤ i → take i p ≡ p
whole [] zero h = refl
whole [] (suc i) h = refl
whole (s ∷ p) zero h = absurd (omega (arith, h))
whole (s ∷ p) (suc i) h = ap (λ l. s ∷ l) (whole p i (omega (arith, h)))

-- the node at an index
pub path_at-index : (nodes : List PathNode) (k : ℕ) (d : PathNode) → k < length nodes → d ≡ get_or nodes k d → path_at (nodes_of nodes) k ≡ option_map steps_of d.path
path_at-index [] k d h e = absurd (omega (arith, h))
path_at-index (n ∷ ns) zero d h e = ap (λ (z : PathNode). option_map steps_of z.path) (sym e)
path_at-index (n ∷ ns) (suc k) d h e = path_at-index ns k d (omega (arith, h)) e

pub path_at-past : (nodes : List PathNode) (k : ℕ) → length nodes ≤ k → path_at (nodes_of nodes) k ≡ None
path_at-past [] k h = refl
path_at-past (n ∷ ns) zero h = absurd (omega (arith, h))
path_at-past (n ∷ ns) (suc k) h = path_at-past ns k (omega (arith, h))

pub child_of-index : (nodes : List PathNode) (k : ℕ) (s : Step) (d : PathNode) → k < length nodes → d ≡ get_or nodes k d → child_of (nodes_of nodes) k s ≡ edge_to (map edge_of d.edges.items) s
child_of-index [] k s d h e = absurd (omega (arith, h))
child_of-index (n ∷ ns) zero s d h e = ap (λ (z : PathNode). edge_to (map edge_of z.edges.items) s) (sym e)
child_of-index (n ∷ ns) (suc k) s d h e = child_of-index ns k s d (omega (arith, h)) e

pub child_of-past : (nodes : List PathNode) (k : ℕ) (s : Step) → length nodes ≤ k → child_of (nodes_of nodes) k s ≡ None
child_of-past [] k s h = refl
child_of-past (n ∷ ns) zero s h = absurd (omega (arith, h))
child_of-past (n ∷ ns) (suc k) s h = child_of-past ns k s (omega (arith, h))

-- a step read from a path
pub read_step : (fs : List Field) (i : ℕ) (f : Field) → i < length fs → f ≡ get_or fs i f → slice_get (map step_of fs) i ≡ Some (step_of f)
read_step [] i f h e = absurd (omega (arith, h))
read_step (g ∷ fs) zero f h e = ap (λ (x : Field). Some (step_of x)) (sym e)
read_step (g ∷ fs) (suc i) f h e = read_step fs i f (omega (arith, h)) e

pub nothing_past : (fs : List Field) (s : Step) → slice_get (map step_of fs) (length fs) ≡ Some s → ⊥
nothing_past [] s e = absurd (cc (e))
nothing_past (f ∷ fs) s e = nothing_past fs s e

one_more : (p : List Step) (i : ℕ) (s : Step) → slice_get p i ≡ Some s → take (suc i) p ≡ take i p ++ s ∷ []
one_more [] i s e = absurd (cc (e))
one_more (t ∷ p) zero s e = let same : t ≡ s = cc (e) in λ i. same i ∷ []
one_more (t ∷ p) (suc i) s e = ap (λ l. t ∷ l) (one_more p i s e)

pub walked_more : (nodes : List TreeNode) (fs : List Field) (i : ℕ) (f : Field) (k : ℕ) (o : Option ℕ) → i < length fs → f ≡ get_or fs i f → reached nodes (take i (map step_of fs)) ≡ Some k → o ≡ child_of nodes k (step_of f) → reached nodes (take (i + 1) (map step_of fs)) ≡ o
walked_more nodes fs i f k o h e r c =
    ap (λ (n : ℕ). reached nodes (take n (map step_of fs))) (add-one i)
    ∙ ap (reached nodes) (one_more (map step_of fs) i (step_of f) (read_step fs i f h e))
    ∙ walked_on (child_of nodes) (take i (map step_of fs)) (step_of f) 0 k o r (sym c)

pub on_err : {T E : Type 0} (r : Result T E) (P : Type 0) → P → OnErr r P
on_err (Ok x) P p = tt
on_err (Err e) P p = p

pub same-write : (nodes : List PathNode) (at : ℕ) (d x : PathNode) → at < length nodes → d ≡ get_or nodes at d → x.path ≡ d.path → map edge_of x.edges.items ≡ map edge_of d.edges.items → nodes_of (set nodes at x) ≡ nodes_of nodes
same-write [] at d x h r p e = absurd (omega (arith, h))
same-write (y ∷ ys) zero d x h r p e =
    let same : option_map steps_of x.path ≡ option_map steps_of y.path = ap (option_map steps_of) (p ∙ ap (λ (z : PathNode). z.path) r) in
    let more : map edge_of x.edges.items ≡ map edge_of y.edges.items = e ∙ ap (λ (z : PathNode). map edge_of z.edges.items) r in
    λ i. (same i, more i) ∷ nodes_of ys
same-write (y ∷ ys) (suc at) d x h r p e = ap (λ l. node_of y ∷ l) (same-write ys at d x (omega (arith, h)) r p e)

pub length-nodes : (nodes : List PathNode) (at : ℕ) → at < length nodes → at < length (nodes_of nodes)
length-nodes [] at h = absurd (omega (arith, h))
length-nodes (n ∷ ns) zero h = omega (arith)
length-nodes (n ∷ ns) (suc at) h = let rest = length-nodes ns at (omega (arith, h)) in omega (arith, rest)

pub inside_nodes : (nodes : List PathNode) (p : List Step) (k : ℕ) → IsTree (nodes_of nodes) → 0 < length nodes → reached (nodes_of nodes) p ≡ Some k → k < length nodes
inside_nodes nodes p k tree h e =
    let len = length-map nodes node_of in
    let small : k < length (nodes_of nodes) = ends_inside (child_of (nodes_of nodes)) (length (nodes_of nodes)) tree.linked p 0 k (omega (arith, len, h)) e in
    omega (arith, len, small)
