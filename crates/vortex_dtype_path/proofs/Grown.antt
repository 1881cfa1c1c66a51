-- A tree of steps stays one with one more edge, path or branch.
use Rattle.std.proofs.Common.{◌⊎◌, inl, inr, ◌≡◌, refl, sym, ap, subst, ◌∙◌, append_assoc, ◌<◌, ◌≤◌, ◌+◌, arith, ℕ, zero, suc, Bool, true, false, ◌||◌, IsTrue, List, [], ◌∷◌, ◌++◌, length, length-append, Option, Some, None, if◌then◌else◌}
use Rattle.std.proofs.Math.Bool.{or-true}
use Rattle.std.specs.List.{cons_option}
use Rattle.std.proofs.lemmas.List.Elements.{filter_map-append}
use Rattle.std.proofs.lemmas.List.Folds.{list_any-append}
use Rattle.vortex_model.specs.Path.{Step}
use Rattle.vortex_dtype_path.specs.Steps.{eq_step, eq_steps, is_among}
use Rattle.vortex_dtype_path.specs.Tree.{TreeNode, edge_to, child_of, reached, path_at, kept_paths, IsTree, AddsPath, branch, link, put}
use Rattle.vortex_dtype_path.proofs.Steps.{eq_step-decides, eq_steps-decides}
use Rattle.vortex_dtype_path.proofs.Walked.{walked_on, Widens, widened, Grows, NewEnd, grown, ends_inside}

-- one more edge at a node
edge_wider_on : (b : Bool) (m k : ℕ) (x y : Option ℕ) → (if b then Some m else x) ≡ Some k → (x ≡ Some k → y ≡ Some k) → (if b then Some m else y) ≡ Some k
edge_wider_on true m k x y e rest = e
edge_wider_on false m k x y e rest = rest e

edge_wider : (es : List (Step × ℕ)) (s : Step) (n : ℕ) (t : Step) (k : ℕ) → edge_to es t ≡ Some k → edge_to (es ++ (s, n) ∷ []) t ≡ Some k
edge_wider [] s n t k e = absurd (cc (e))
edge_wider (x ∷ es) s n t k e = edge_wider_on (eq_step x.0 t) x.1 k (edge_to es t) (edge_to (es ++ (s, n) ∷ []) t) e (edge_wider es s n t k)

abbrev IsOnly : Option ℕ → ℕ → Type 0 → Type 0
IsOnly o k P = (o ≡ Some k) ⊎ P

edge_only_here : (b : Bool) (s t : Step) (n k : ℕ) → eq_step s t ≡ b → (if b then Some n else None) ≡ Some k → (s ≡ t) × (k ≡ n)
edge_only_here true s t n k q e = ((eq_step-decides s t).0 q, cc (e))
edge_only_here false s t n k q e = absurd (cc (e))

edge_only_on : (b : Bool) (m k : ℕ) (x y : Option ℕ) (P : Type 0) → (if b then Some m else y) ≡ Some k → (y ≡ Some k → IsOnly x k P) → IsOnly (if b then Some m else x) k P
edge_only_on true m k x y P e rest = inl e
edge_only_on false m k x y P e rest = rest e

edge_only : (es : List (Step × ℕ)) (s : Step) (n : ℕ) (t : Step) (k : ℕ) → edge_to (es ++ (s, n) ∷ []) t ≡ Some k → IsOnly (edge_to es t) k ((s ≡ t) × (k ≡ n))
edge_only [] s n t k e = inr (edge_only_here (eq_step s t) s t n k refl e)
edge_only (x ∷ es) s n t k e = edge_only_on (eq_step x.0 t) x.1 k (edge_to es t) (edge_to (es ++ (s, n) ∷ []) t) ((s ≡ t) × (k ≡ n)) e (edge_only es s n t k)

edge_new_on : (b : Bool) (m n : ℕ) (x y : Option ℕ) → (if b then Some m else x) ≡ None → (x ≡ None → y ≡ Some n) → (if b then Some m else y) ≡ Some n
edge_new_on true m n x y e rest = absurd (cc (e))
edge_new_on false m n x y e rest = rest e

edge_new : (es : List (Step × ℕ)) (s : Step) (n : ℕ) → edge_to es s ≡ None → edge_to (es ++ (s, n) ∷ []) s ≡ Some n
edge_new [] s n e = ap (λ b. if b then Some n else None) ((eq_step-decides s s).1 refl)
edge_new (x ∷ es) s n e = edge_new_on (eq_step x.0 s) x.1 n (edge_to es s) (edge_to (es ++ (s, n) ∷ []) s) e (edge_new es s n)

-- one more edge at one of the nodes
link_wider : (nodes : List TreeNode) (at : ℕ) (s : Step) (n : ℕ) → Widens (child_of nodes) (child_of (link nodes at s n))
link_wider [] at s n i t k e = absurd (cc (e))
link_wider (x ∷ xs) zero s n zero t k e = edge_wider x.1 s n t k e
link_wider (x ∷ xs) zero s n (suc i) t k e = e
link_wider (x ∷ xs) (suc at) s n zero t k e = e
link_wider (x ∷ xs) (suc at) s n (suc i) t k e = link_wider xs at s n i t k e

link_only : (nodes : List TreeNode) (at : ℕ) (s : Step) (n i : ℕ) (t : Step) (k : ℕ) → child_of (link nodes at s n) i t ≡ Some k → (child_of nodes i t ≡ Some k) ⊎ ((i ≡ at) × (s ≡ t) × (k ≡ n))
link_only [] at s n i t k e = absurd (cc (e))
link_only (x ∷ xs) zero s n zero t k e = elim (edge_only x.1 s n t k e) [ inl h ↦ inl h | inr h ↦ inr (refl, h.0, h.1) ]
link_only (x ∷ xs) zero s n (suc i) t k e = inl e
link_only (x ∷ xs) (suc at) s n zero t k e = inl e
link_only (x ∷ xs) (suc at) s n (suc i) t k e = elim (link_only xs at s n i t k e) [ inl h ↦ inl h | inr h ↦ inr (ap suc h.0, h.1, h.2) ]

link_new : (nodes : List TreeNode) (at : ℕ) (s : Step) (n : ℕ) → at < length nodes → child_of nodes at s ≡ None → child_of (link nodes at s n) at s ≡ Some n
link_new [] at s n h e = absurd (omega (arith, h))
link_new (x ∷ xs) zero s n h e = edge_new x.1 s n e
link_new (x ∷ xs) (suc at) s n h e = link_new xs at s n (omega (arith, h)) e

length-link : (nodes : List TreeNode) (at : ℕ) (s : Step) (n : ℕ) → length (link nodes at s n) ≡ length nodes
length-link [] at s n = refl
length-link (x ∷ xs) zero s n = omega arith
length-link (x ∷ xs) (suc at) s n = let rest = length-link xs at s n in omega (arith, rest)

path_at-link : (nodes : List TreeNode) (at : ℕ) (s : Step) (n k : ℕ) → path_at (link nodes at s n) k ≡ path_at nodes k
path_at-link [] at s n k = refl
path_at-link (x ∷ xs) zero s n zero = refl
path_at-link (x ∷ xs) zero s n (suc k) = refl
path_at-link (x ∷ xs) (suc at) s n zero = refl
path_at-link (x ∷ xs) (suc at) s n (suc k) = path_at-link xs at s n k

pub kept_paths-link : (nodes : List TreeNode) (at : ℕ) (s : Step) (n : ℕ) → kept_paths (link nodes at s n) ≡ kept_paths nodes
kept_paths-link [] at s n = refl
kept_paths-link (x ∷ xs) zero s n = refl
kept_paths-link (x ∷ xs) (suc at) s n = ap (λ ps. cons_option x.0 ps) (kept_paths-link xs at s n)

-- one more node, without a path or edges
abbrev with_empty : List TreeNode → List TreeNode
with_empty xs = xs ++ (None, []) ∷ []

empty_child : (xs : List TreeNode) (i : ℕ) (t : Step) → child_of (with_empty xs) i t ≡ child_of xs i t
empty_child [] zero t = refl
empty_child [] (suc i) t = refl
empty_child (x ∷ xs) zero t = refl
empty_child (x ∷ xs) (suc i) t = empty_child xs i t

empty_path : (xs : List TreeNode) (k : ℕ) → path_at (with_empty xs) k ≡ path_at xs k
empty_path [] zero = refl
empty_path [] (suc k) = refl
empty_path (x ∷ xs) zero = refl
empty_path (x ∷ xs) (suc k) = empty_path xs k

out_of_range : (nodes : List TreeNode) (i : ℕ) (t : Step) → length nodes ≤ i → child_of nodes i t ≡ None
out_of_range [] i t h = refl
out_of_range (x ∷ xs) zero t h = absurd (omega (arith, h))
out_of_range (x ∷ xs) (suc i) t h = out_of_range xs i t (omega (arith, h))

-- a new node after one of the nodes
abbrev grow : List TreeNode → ℕ → Step → ℕ → List TreeNode
grow nodes at s n = with_empty (link nodes at s n)

grow_only : (nodes : List TreeNode) (at : ℕ) (s : Step) (n i : ℕ) (t : Step) (k : ℕ) → child_of (grow nodes at s n) i t ≡ Some k → (child_of nodes i t ≡ Some k) ⊎ ((i ≡ at) × (s ≡ t) × (k ≡ n))
grow_only nodes at s n i t k e = link_only nodes at s n i t k (sym (empty_child (link nodes at s n) i t) ∙ e)

nothing_at : (o : Option ℕ) → ((k : ℕ) → o ≡ Some k → ⊥) → o ≡ None
nothing_at None h = refl
nothing_at (Some k) h = absurd (h k refl)

new_last : (nodes : List TreeNode) (at : ℕ) (s : Step) (n : ℕ) → n ≡ length nodes → at < length nodes → (t : Step) → child_of (grow nodes at s n) n t ≡ None
new_last nodes at s n e h t =
    nothing_at (child_of (grow nodes at s n) n t) (λ k f. elim (grow_only nodes at s n n t k f) [
      | inl old ↦ absurd (cc (old, out_of_range nodes n t (omega (arith, e))))
      | inr new ↦ absurd (omega (arith, new.0, e, h))
    ])

grows : (nodes : List TreeNode) (at : ℕ) (s : Step) (n : ℕ) → n ≡ length nodes → at < length nodes → child_of nodes at s ≡ None → Grows (child_of nodes) (child_of (grow nodes at s n)) at s n
grows nodes at s n e h f = record {
  wider = λ i t k g. empty_child (link nodes at s n) i t ∙ link_wider nodes at s n i t k g;
  only = grow_only nodes at s n;
  leads = empty_child (link nodes at s n) at s ∙ link_new nodes at s n h f;
  last = new_last nodes at s n e h;
}

length-grow : (nodes : List TreeNode) (at : ℕ) (s : Step) (n : ℕ) → length (grow nodes at s n) ≡ length nodes + 1
length-grow nodes at s n =
    let whole = length-append (link nodes at s n) ((None, []) ∷ []) in
    let front = length-link nodes at s n in
    omega (arith, whole, front)

grow_linked : (nodes : List TreeNode) (at : ℕ) (s : Step) (n : ℕ) → IsTree nodes → n ≡ length nodes → (i : ℕ) (t : Step) (k : ℕ) → child_of (grow nodes at s n) i t ≡ Some k → k < length (grow nodes at s n)
grow_linked nodes at s n tree e i t k g =
    let len = length-grow nodes at s n in
    elim (grow_only nodes at s n i t k g) [
      | inl old ↦ let small = tree.linked i t k old in omega (arith, len, small)
      | inr new ↦ omega (arith, len, new.2, e)
    ]

-- ways that lead to one node are equal
abbrev OneWay : List TreeNode → Type 0
OneWay nodes = (p q : List Step) (k : ℕ) → reached nodes p ≡ Some k → reached nodes q ≡ Some k → IsTrue (eq_steps p q)

new_alike : (nodes : List TreeNode) → IsTree nodes → (at : ℕ) (s : Step) (n : ℕ) (p q : List Step) (k : ℕ) → NewEnd (child_of nodes) at s n 0 p k → NewEnd (child_of nodes) at s n 0 q k → IsTrue (eq_steps p q)
new_alike nodes tree at s n p q k a b =
    let same : a.1.0 ≡ b.1.0 = (eq_steps-decides a.1.0 b.1.0).0 (tree.single a.1.0 b.1.0 at a.1.1 b.1.1) in
    (eq_steps-decides p q).1 (a.1.2 ∙ ap (λ r. r ++ s ∷ []) same ∙ sym b.1.2)

not_new : (nodes : List TreeNode) → IsTree nodes → (at : ℕ) (s : Step) (n : ℕ) (p q : List Step) (k : ℕ) → n ≡ length nodes → at < length nodes → reached nodes p ≡ Some k → NewEnd (child_of nodes) at s n 0 q k → ⊥
not_new nodes tree at s n p q k e h f new =
    let small : k < length nodes = ends_inside (child_of nodes) (length nodes) tree.linked p 0 k (omega (arith, h)) f in
    omega (arith, small, new.0, e)

grow_single : (nodes : List TreeNode) (at : ℕ) (s : Step) (n : ℕ) → IsTree nodes → n ≡ length nodes → at < length nodes → child_of nodes at s ≡ None → OneWay (grow nodes at s n)
grow_single nodes at s n tree e h c p q k f g =
    let more = grows nodes at s n e h c in
    elim (grown (child_of nodes) (child_of (grow nodes at s n)) at s n more p 0 k f) [
      | inl old ↦ elim (grown (child_of nodes) (child_of (grow nodes at s n)) at s n more q 0 k g) [
        | inl old2 ↦ tree.single p q k old old2
        | inr new2 ↦ absurd (not_new nodes tree at s n p q k e h old new2)
      ]
      | inr new ↦ elim (grown (child_of nodes) (child_of (grow nodes at s n)) at s n more q 0 k g) [
        | inl old2 ↦ absurd (not_new nodes tree at s n q p k e h old2 new)
        | inr new2 ↦ new_alike nodes tree at s n p q k new new2
      ]
    ]

grow_tree : (nodes : List TreeNode) (at : ℕ) (s : Step) (n : ℕ) → IsTree nodes → n ≡ length nodes → at < length nodes → child_of nodes at s ≡ None → IsTree (grow nodes at s n)
grow_tree nodes at s n tree e h c = record {
  kept = λ k p f. widened (child_of nodes) (child_of (grow nodes at s n)) (grows nodes at s n e h c).wider p 0 k
      (tree.kept k p (sym (path_at-link nodes at s n k) ∙ sym (empty_path (link nodes at s n) k) ∙ f));
  linked = grow_linked nodes at s n tree e;
  single = grow_single nodes at s n tree e h c;
}

-- one more path at a node
put_child : (nodes : List TreeNode) (at : ℕ) (p : List Step) (i : ℕ) (t : Step) → child_of (put nodes at p) i t ≡ child_of nodes i t
put_child [] at p i t = refl
put_child (x ∷ xs) zero p zero t = refl
put_child (x ∷ xs) zero p (suc i) t = refl
put_child (x ∷ xs) (suc at) p zero t = refl
put_child (x ∷ xs) (suc at) p (suc i) t = put_child xs at p i t

length-put : (nodes : List TreeNode) (at : ℕ) (p : List Step) → length (put nodes at p) ≡ length nodes
length-put [] at p = refl
length-put (x ∷ xs) zero p = omega arith
length-put (x ∷ xs) (suc at) p = let rest = length-put xs at p in omega (arith, rest)

put_path : (nodes : List TreeNode) (at : ℕ) (p : List Step) (k : ℕ) (q : List Step) → path_at (put nodes at p) k ≡ Some q → (path_at nodes k ≡ Some q) ⊎ ((k ≡ at) × (q ≡ p))
put_path [] at p k q e = absurd (cc (e))
put_path (x ∷ xs) zero p zero q e = inr (refl, cc (e))
put_path (x ∷ xs) zero p (suc k) q e = inl e
put_path (x ∷ xs) (suc at) p zero q e = inl e
put_path (x ∷ xs) (suc at) p (suc k) q e = elim (put_path xs at p k q e) [ inl h ↦ inl h | inr h ↦ inr (ap suc h.0, h.1) ]

put_wider : (nodes : List TreeNode) (at : ℕ) (p : List Step) → Widens (child_of nodes) (child_of (put nodes at p))
put_wider nodes at p i t k e = put_child nodes at p i t ∙ e

put_back : (nodes : List TreeNode) (at : ℕ) (p : List Step) → Widens (child_of (put nodes at p)) (child_of nodes)
put_back nodes at p i t k e = sym (put_child nodes at p i t) ∙ e

put_kept : (nodes : List TreeNode) (at : ℕ) (p : List Step) → IsTree nodes → reached nodes p ≡ Some at → (k : ℕ) (q : List Step) → path_at (put nodes at p) k ≡ Some q → reached nodes q ≡ Some k
put_kept nodes at p tree e k q f =
    elim (put_path nodes at p k q f) [
      | inl old ↦ tree.kept k q old
      | inr new ↦ ap (reached nodes) new.1 ∙ e ∙ ap Some (sym new.0)
    ]

put_tree : (nodes : List TreeNode) (at : ℕ) (p : List Step) → IsTree nodes → reached nodes p ≡ Some at → IsTree (put nodes at p)
put_tree nodes at p tree e = record {
  kept = λ k q f. widened (child_of nodes) (child_of (put nodes at p)) (put_wider nodes at p) q 0 k (put_kept nodes at p tree e k q f);
  linked = λ i t k f. let small = tree.linked i t k (put_back nodes at p i t k f) in let len = length-put nodes at p in omega (arith, small, len);
  single = λ q r k f g. tree.single q r k (widened (child_of (put nodes at p)) (child_of nodes) (put_back nodes at p) q 0 k f) (widened (child_of (put nodes at p)) (child_of nodes) (put_back nodes at p) r 0 k g);
}

swapped : (a b c : Bool) → (a || (b || c)) ≡ (b || (a || c))
swapped true b c = sym (or-true b)
swapped false b c = refl

among_past : (o : Option (List Step)) (old new : List (List Step)) (p q : List Step) → is_among new q ≡ (eq_steps q p || is_among old q) → is_among (cons_option o new) q ≡ (eq_steps q p || is_among (cons_option o old) q)
among_past None old new p q e = e
among_past (Some r) old new p q e = ap (λ b. eq_steps q r || b) e ∙ swapped (eq_steps q r) (eq_steps q p) (is_among old q)

put_among : (nodes : List TreeNode) (at : ℕ) (p q : List Step) → at < length nodes → path_at nodes at ≡ None → is_among (kept_paths (put nodes at p)) q ≡ (eq_steps q p || is_among (kept_paths nodes) q)
put_among [] at p q h e = absurd (omega (arith, h))
put_among (x ∷ xs) zero p q h e = ap (λ o. eq_steps q p || is_among (cons_option o (kept_paths xs)) q) (sym e)
put_among (x ∷ xs) (suc at) p q h e = among_past x.0 (kept_paths xs) (kept_paths (put xs at p)) p q (put_among xs at p q (omega (arith, h)) e)

count_past : (o : Option (List Step)) (old new : List (List Step)) → length new ≡ length old + 1 → length (cons_option o new) ≡ length (cons_option o old) + 1
count_past None old new e = e
count_past (Some r) old new e = omega (arith, e)

put_count : (nodes : List TreeNode) (at : ℕ) (p : List Step) → at < length nodes → path_at nodes at ≡ None → length (kept_paths (put nodes at p)) ≡ length (kept_paths nodes) + 1
put_count [] at p h e = absurd (omega (arith, h))
put_count (x ∷ xs) zero p h e =
    let none : length (cons_option x.0 (kept_paths xs)) ≡ length (kept_paths xs) = ap (λ o. length (cons_option o (kept_paths xs))) e in
    omega (arith, none)
put_count (x ∷ xs) (suc at) p h e = count_past x.0 (kept_paths xs) (kept_paths (put xs at p)) (put_count xs at p (omega (arith, h)) e)

pub put_adds : (nodes : List TreeNode) (at : ℕ) (p : List Step) → IsTree nodes → reached nodes p ≡ Some at → at < length nodes → path_at nodes at ≡ None → AddsPath nodes (put nodes at p) p
put_adds nodes at p tree e h f = record {
  is_tree = put_tree nodes at p tree e;
  added = λ q. put_among nodes at p q h f;
  counted = put_count nodes at p h f;
}

-- one more branch after a node
put_last : (xs : List TreeNode) (x : TreeNode) (n : ℕ) (p : List Step) → n ≡ length xs → put (xs ++ x ∷ []) n p ≡ xs ++ (Some p, x.1) ∷ []
put_last [] x zero p e = refl
put_last [] x (suc n) p e = absurd (omega (arith, e))
put_last (y ∷ xs) x zero p e = absurd (omega (arith, e))
put_last (y ∷ xs) x (suc n) p e = ap (λ l. y ∷ l) (put_last xs x n p (omega (arith, e)))

link_last : (xs : List TreeNode) (x : TreeNode) (n : ℕ) (s : Step) (m : ℕ) → n ≡ length xs → link (xs ++ x ∷ []) n s m ≡ xs ++ (x.0, x.1 ++ (s, m) ∷ []) ∷ []
link_last [] x zero s m e = refl
link_last [] x (suc n) s m e = absurd (omega (arith, e))
link_last (y ∷ xs) x zero s m e = absurd (omega (arith, e))
link_last (y ∷ xs) x (suc n) s m e = ap (λ l. y ∷ l) (link_last xs x n s m (omega (arith, e)))

abbrev hung : List TreeNode → ℕ → Step → ℕ → List Step → List Step → List TreeNode
hung nodes at s n p rest = link nodes at s n ++ branch n p rest

hung_more : (nodes : List TreeNode) (at : ℕ) (s : Step) (n : ℕ) (p : List Step) (t : Step) (rest : List Step) → n ≡ length nodes → hung (grow nodes at s n) n t (n + 1) p rest ≡ hung nodes at s n p (t ∷ rest)
hung_more nodes at s n p t rest e =
    ap (λ l. l ++ branch (n + 1) p rest) (link_last (link nodes at s n) (None, []) n t (n + 1) (e ∙ sym (length-link nodes at s n)))
    ∙ append_assoc (link nodes at s n) ((None, (t, n + 1) ∷ []) ∷ []) (branch (n + 1) p rest)

hung_tree : (rest : List Step) (nodes : List TreeNode) (at : ℕ) (s : Step) (n : ℕ) (front p : List Step) → IsTree nodes → n ≡ length nodes → at < length nodes → reached nodes front ≡ Some at → child_of nodes at s ≡ None → p ≡ front ++ s ∷ rest → IsTree (hung nodes at s n p rest)
hung_tree [] nodes at s n front p tree e h f c w =
    let more = grows nodes at s n e h c in
    let there : reached (grow nodes at s n) p ≡ Some n = ap (reached (grow nodes at s n)) w ∙ walked_on (child_of (grow nodes at s n)) front s 0 at (Some n) (widened (child_of nodes) (child_of (grow nodes at s n)) more.wider front 0 at f) more.leads in
    subst IsTree (put_last (link nodes at s n) (None, []) n p (e ∙ sym (length-link nodes at s n))) (put_tree (grow nodes at s n) n p (grow_tree nodes at s n tree e h c) there)
hung_tree (t ∷ rest) nodes at s n front p tree e h f c w =
    let more = grows nodes at s n e h c in
    let len = length-grow nodes at s n in
    let there : reached (grow nodes at s n) (front ++ s ∷ []) ≡ Some n = walked_on (child_of (grow nodes at s n)) front s 0 at (Some n) (widened (child_of nodes) (child_of (grow nodes at s n)) more.wider front 0 at f) more.leads in
    subst IsTree (hung_more nodes at s n p t rest e)
    (hung_tree rest (grow nodes at s n) n t (n + 1) (front ++ s ∷ []) p (grow_tree nodes at s n tree e h c) (omega (arith, e, len)) (omega (arith, e, len)) there (more.last t) (w ∙ sym (append_assoc front (s ∷ []) (t ∷ rest))))

branch_kept : (rest : List Step) (n : ℕ) (p : List Step) → kept_paths (branch n p rest) ≡ p ∷ []
branch_kept [] n p = refl
branch_kept (s ∷ rest) n p = branch_kept rest (n + 1) p

hung_kept : (nodes : List TreeNode) (at : ℕ) (s : Step) (n : ℕ) (p rest : List Step) → kept_paths (hung nodes at s n p rest) ≡ kept_paths nodes ++ p ∷ []
hung_kept nodes at s n p rest =
    filter_map-append (λ (x : TreeNode). x.0) (link nodes at s n) (branch n p rest)
    ∙ ap (λ l. l ++ kept_paths (branch n p rest)) (kept_paths-link nodes at s n)
    ∙ ap (λ l. kept_paths nodes ++ l) (branch_kept rest n p)

either_way : (a b : Bool) → (a || (b || false)) ≡ (b || a)
either_way true true = refl
either_way true false = refl
either_way false true = refl
either_way false false = refl

pub hung_adds : (nodes : List TreeNode) (at : ℕ) (s : Step) (n : ℕ) (front p rest : List Step) → IsTree nodes → n ≡ length nodes → at < length nodes → reached nodes front ≡ Some at → child_of nodes at s ≡ None → p ≡ front ++ s ∷ rest → AddsPath nodes (hung nodes at s n p rest) p
hung_adds nodes at s n front p rest tree e h f c w = record {
  is_tree = hung_tree rest nodes at s n front p tree e h f c w;
  added = λ q. ap (λ l. is_among l q) (hung_kept nodes at s n p rest) ∙ list_any-append (eq_steps q) (kept_paths nodes) (p ∷ []) ∙ either_way (is_among (kept_paths nodes) q) (eq_steps q p);
  counted = ap length (hung_kept nodes at s n p rest) ∙ length-append (kept_paths nodes) (p ∷ []);
}

-- a tree without nodes, and one with only the root
root_only : (p : List Step) (k : ℕ) → reached ((None, []) ∷ []) p ≡ Some k → p ≡ []
root_only [] k e = refl
root_only (s ∷ p) k e = absurd (cc (e))

none_only : (p : List Step) (k : ℕ) → reached [] p ≡ Some k → p ≡ []
none_only [] k e = refl
none_only (s ∷ p) k e = absurd (cc (e))

pub root_tree : IsTree ((None, []) ∷ [])
root_tree = record {
  kept = λ k p e. absurd (cc (sym (empty_path [] k) ∙ e));
  linked = λ i s k e. absurd (cc (sym (empty_child [] i s) ∙ e));
  single = λ p q k e f. (eq_steps-decides p q).1 (root_only p k e ∙ sym (root_only q k f));
}

pub empty_tree : IsTree []
empty_tree = record {
  kept = λ k p e. absurd (cc (e));
  linked = λ i s k e. absurd (cc (e));
  single = λ p q k e f. (eq_steps-decides p q).1 (none_only p k e ∙ sym (none_only q k f));
}
