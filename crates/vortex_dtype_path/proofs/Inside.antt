-- The walk along steps meets the end of a path before its own end exactly where the steps have a
-- proper prefix in the set.
use Rattle.std.proofs.lemmas.Bool.{lt-ltb, or_right}
use Rattle.std.proofs.Common.{◌≡◌, refl, sym, ap, subst, ◌∙◌, ◌<◌, ◌≤◌, zero, suc, map, drop, get_or, drop-cons, arith, ℕ, Bool, true, false, ◌||◌, List, [], ◌∷◌, ◌++◌, length, length-append, append-nil, Option, Some, None, is_some, nat_lt}
use Rattle.std.proofs.lemmas.Bool.{ltb-true}
use Rattle.std.specs.Cmp.Derive.{both_true}
use Rattle.std.specs.Cmp.{both_ways}
use Rattle.vortex_model.specs.Path.{Step}
use Rattle.vortex_dtype_path.specs.Steps.{eq_steps, is_among, begins_properly, lies_inside}
use Rattle.vortex_dtype_path.specs.View.{step_of}
use Rattle.vortex_dtype_path.specs.declared.field.Field.{Field}
use Rattle.vortex_dtype_path.specs.Tree.{TreeNode, child_of, walk, reached, path_at, kept_paths, IsTree}
use Rattle.vortex_dtype_path.proofs.Steps.{eq_steps-decides, starts}
use Rattle.vortex_dtype_path.proofs.Sets.{inside}
use Rattle.vortex_dtype_path.proofs.Kept.{at_among, among_at}

-- the walk from a node meets the end of a path before its own
abbrev pub met : List TreeNode → Option ℕ → List Step → Bool
met nodes None p = false
met nodes (Some i) [] = false
met nodes (Some i) (s ∷ p) = is_some (path_at nodes i) || met nodes (child_of nodes i s) p

-- the step at which one ends
abbrev MeetsAt : List TreeNode → Option ℕ → List Step → Type 0
MeetsAt nodes o q = (r : List Step) × ((s : Step) × (rest : List Step) × (q ≡ r ++ s ∷ rest)) × ((k : ℕ) × (walk (child_of nodes) o r ≡ Some k) × (is_some (path_at nodes k) ≡ true))

meets_on : (nodes : List TreeNode) (i : ℕ) (s : Step) (q : List Step) (b : Bool) → is_some (path_at nodes i) ≡ b → (b || met nodes (child_of nodes i s) q) ≡ true →
    (met nodes (child_of nodes i s) q ≡ true → MeetsAt nodes (child_of nodes i s) q) → MeetsAt nodes (Some i) (s ∷ q)
meets_on nodes i s q true e h rest = ([], (s, q, refl), (i, refl, e))
meets_on nodes i s q false e h rest =
    let further = rest h in
    (s ∷ further.0, (further.1.0, further.1.1, ap (λ l. s ∷ l) further.1.2), further.2)

meets : (nodes : List TreeNode) (q : List Step) (o : Option ℕ) → met nodes o q ≡ true → MeetsAt nodes o q
meets nodes [] None h = absurd (cc (h))
meets nodes [] (Some i) h = absurd (cc (h))
meets nodes (s ∷ q) None h = absurd (cc (h))
meets nodes (s ∷ q) (Some i) h = meets_on nodes i s q (is_some (path_at nodes i)) refl h (meets nodes q (child_of nodes i s))

member_here : (x : List Step) (ps : List (List Step)) (r q : List Step) (b : Bool) → eq_steps r x ≡ b → (b || is_among ps r) ≡ true → begins_properly r q ≡ true → (is_among ps r ≡ true → lies_inside ps q ≡ true) → (begins_properly x q || lies_inside ps q) ≡ true
member_here x ps r q true e h p rest =
    let front : begins_properly x q ≡ true = subst (λ l. begins_properly l q ≡ true) ((eq_steps-decides r x).0 e) p in
    ap (λ b. b || lies_inside ps q) front
member_here x ps r q false e h p rest = let more : lies_inside ps q ≡ true = rest h in or_right (begins_properly x q) (lies_inside ps q) more

member_inside : (ps : List (List Step)) (r q : List Step) → is_among ps r ≡ true → begins_properly r q ≡ true → lies_inside ps q ≡ true
member_inside [] r q h p = absurd (cc (h))
member_inside (x ∷ ps) r q h p = member_here x ps r q (eq_steps r x) refl h p (λ h'. member_inside ps r q h' p)

longer : (r : List Step) (s : Step) (rest : List Step) → length r < length (r ++ s ∷ rest)
longer r s rest = let n = length-append r (s ∷ rest) in omega (arith, n)

properly : (r : List Step) (s : Step) (rest q : List Step) → q ≡ r ++ s ∷ rest → begins_properly r q ≡ true
properly r s rest q e =
    let less : nat_lt (length r) (length q) ≡ true = lt-ltb _ _ (subst (λ l. length r < length l) (sym e) (longer r s rest)) in
    both_true less ((starts r q).1 (s ∷ rest, sym e))

kept_there : (nodes : List TreeNode) → IsTree nodes → (r : List Step) (k : ℕ) (o : Option (List Step)) → path_at nodes k ≡ o → is_some o ≡ true → reached nodes r ≡ Some k → is_among (kept_paths nodes) r ≡ true
kept_there nodes t r k None q h e = absurd (cc (h))
kept_there nodes t r k (Some p) q h e =
    let same : r ≡ p = (eq_steps-decides r p).0 (t.single r p k e (t.kept k p q)) in
    ap (λ l. is_among (kept_paths nodes) l) same ∙ at_among nodes k p q

met_then_inside : (nodes : List TreeNode) → IsTree nodes → (q : List Step) → met nodes (Some 0) q ≡ true → lies_inside (kept_paths nodes) q ≡ true
met_then_inside nodes t q h =
    let m = meets nodes q (Some 0) h in
    member_inside (kept_paths nodes) m.0 q (kept_there nodes t m.0 m.2.0 (path_at nodes m.2.0) refl m.2.2 m.2.1) (properly m.0 m.1.0 m.1.1 q m.1.2)

-- the end of a path on the way is met
meets_past : (nodes : List TreeNode) (r : List Step) (o : Option ℕ) (s : Step) (rest : List Step) (k : ℕ) → walk (child_of nodes) o r ≡ Some k → is_some (path_at nodes k) ≡ true → met nodes o (r ++ s ∷ rest) ≡ true
meets_past nodes [] None s rest k e h = absurd (cc (e))
meets_past nodes [] (Some i) s rest k e h =
    let same : i ≡ k = cc (e) in
    ap (λ b. b || met nodes (child_of nodes i s) rest) (ap (λ m. is_some (path_at nodes m)) same ∙ h)
meets_past nodes (t ∷ r) None s rest k e h = absurd (cc (e))
meets_past nodes (t ∷ r) (Some i) s rest k e h =
    or_right (is_some (path_at nodes i)) (met nodes (child_of nodes i t) (r ++ s ∷ rest)) (meets_past nodes r (child_of nodes i t) s rest k e h)

past_end : (nodes : List TreeNode) (p rest q : List Step) (k : ℕ) → p ++ rest ≡ q → length p < length q → path_at nodes k ≡ Some p → reached nodes p ≡ Some k → met nodes (Some 0) q ≡ true
past_end nodes p [] q k e l f h = let same : length p ≡ length q = ap length (sym (append-nil p) ∙ e) in absurd (omega (arith, l, same))
past_end nodes p (s ∷ rest) q k e l f h = subst (λ x. met nodes (Some 0) x ≡ true) e (meets_past nodes p (Some 0) s rest k h (ap is_some f))

inside_then_met : (nodes : List TreeNode) → IsTree nodes → (q : List Step) → lies_inside (kept_paths nodes) q ≡ true → met nodes (Some 0) q ≡ true
inside_then_met nodes t q h =
    let outer = inside (kept_paths nodes) q h in
    let there = among_at nodes outer.0 outer.1 in
    let less : length outer.0 < length q = omega (arith, ltb-true, outer.3) in
    past_end nodes outer.0 outer.2.0 q there.0 outer.2.1 less there.1 (t.kept there.0 outer.0 there.1)

pub met_inside : (nodes : List TreeNode) → IsTree nodes → (q : List Step) → met nodes (Some 0) q ≡ lies_inside (kept_paths nodes) q
met_inside nodes t q = both_ways _ _ (met_then_inside nodes t q) (inside_then_met nodes t q)

-- one step of the loop
pub met_step : (nodes : List TreeNode) (fs : List Field) (i : ℕ) (f : Field) (at : ℕ) (b : Bool) (o : Option ℕ) → i < length fs → f ≡ get_or fs i f → is_some (path_at nodes at) ≡ b → child_of nodes at (step_of f) ≡ o → met nodes (Some at) (map step_of (drop i fs)) ≡ (b || met nodes o (map step_of (drop (suc i) fs)))
met_step nodes fs i f at b o h e p q =
    ap (λ (l : List Field). met nodes (Some at) (map step_of l)) (drop-cons fs i f h)
    ∙ ap (λ (g : Field). is_some (path_at nodes at) || met nodes (child_of nodes at (step_of g)) (map step_of (drop (suc i) fs))) (sym e)
    ∙ (λ j. p j || met nodes (q j) (map step_of (drop (suc i) fs)))

pub met_done : (nodes : List TreeNode) (fs : List Field) (i at : ℕ) → length fs ≤ i → met nodes (Some at) (map step_of (drop i fs)) ≡ false
met_done nodes [] zero at h = refl
met_done nodes [] (suc i) at h = refl
met_done nodes (f ∷ fs) zero at h = absurd (omega (arith, h))
met_done nodes (f ∷ fs) (suc i) at h = met_done nodes fs i at (omega (arith, h))
