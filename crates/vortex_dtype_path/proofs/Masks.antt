-- The root, and paths with a given first step.
use Rattle.std.proofs.lemmas.Bool.{eqb-true}
use Rattle.std.proofs.Common.{append-nil, IsTrue, ◌↔◌, ◌≡◌, refl, sym, ap, ◌∙◌, arith, Bool, true, false, length, List, [], ◌∷◌, ◌++◌, ◌==◌, Some, None}
use Rattle.vortex_model.specs.Path.{Step, element}
use Rattle.vortex_dtype_path.specs.Steps.{Begins, without_first}

is_empty : (p : List Step) (r : Bool) → r ≡ (length p == 0) → IsTrue r ↔ (p ≡ [])
is_empty [] r e = (λ h. refl, λ h. e)
is_empty (x ∷ p) r e = (λ h. absurd (omega (arith, eqb-true (length (x ∷ p)) 0 (sym e ∙ h))), λ h. absurd (cc (h)))

begins_root : (p : List Step) → Begins p [] → p ≡ []
begins_root [] b = refl
begins_root (x ∷ p) b = absurd (cc (b.1))

root_begins : (p : List Step) → p ≡ [] → (q : List Step) → Begins p q
root_begins p e q = (q, ap (λ l. l ++ q) e)

pub root_only : (p : List Step) (r : Bool) → r ≡ (length p == 0) → IsTrue r ↔ Begins p []
root_only p r e = (λ h. root_begins p ((is_empty p r e).0 h) [], λ b. (is_empty p r e).1 (begins_root p b))

pub root_all : (p : List Step) (r : Bool) → r ≡ (length p == 0) → IsTrue r ↔ ((q : List Step) → Begins p q)
root_all p r e = (λ h. root_begins p ((is_empty p r e).0 h), λ b. (is_empty p r e).1 (begins_root p (b [])))

pub one_alone : (p : List Step) → IsTrue false ↔ ((q : List Step) → p ≡ q)
one_alone p = (λ h. absurd (cc (h)), λ all. absurd (cc (all [], all (element ∷ []))))

pub root_starts : (p : List Step) (s : Step) (r : Bool) → r ≡ (length p == 0) → r ≡ true → IsTrue r ↔ ((q : List Step) × Begins p (s ∷ q))
root_starts p s r e h = (λ t. ([], root_begins p ((is_empty p r e).0 t) (s ∷ [])), λ b. h)

step_starts_at : (p : List Step) (s : Step) → (p ≡ [] → ⊥) → Begins (s ∷ []) p ↔ ((q : List Step) × Begins p (s ∷ q))
step_starts_at [] s n = absurd (n refl)
step_starts_at (x ∷ p) s n = (
  λ b. let same : s ≡ x = cc (b.1) in (p, ([], λ i. sym same i ∷ append-nil p i)),
  λ b. let same : x ≡ s = cc (b.1.1) in (p, λ i. sym same i ∷ p),
)

pub step_starts : (p : List Step) (s : Step) (r t : Bool) → r ≡ (length p == 0) → r ≡ false → (IsTrue t ↔ Begins (s ∷ []) p) → IsTrue t ↔ ((q : List Step) × Begins p (s ∷ q))
step_starts p s r t e h b =
    let at = step_starts_at p s (λ n. absurd (cc ((is_empty p r e).1 n, h))) in
    (λ y. at.0 (b.0 y), λ z. b.1 (at.1 z))

pub behind_root : (p : List Step) (s : Step) → None ≡ without_first p → (q : List Step) → Unit {0} ↔ Begins p (s ∷ q)
behind_root [] s e q = (λ u. (s ∷ q, refl), λ b. tt)
behind_root (x ∷ p) s e q = absurd (cc (e))

pub goes_on : (p r : List Step) → Some r ≡ without_first p → p ≡ [] → ⊥
goes_on p r e h = absurd (cc (e ∙ ap without_first h))

pub goes_on_behind : (p r : List Step) → Some r ≡ without_first p → Begins p [] → ⊥
goes_on_behind p r e b = goes_on p r e (begins_root p b)
