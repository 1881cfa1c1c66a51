-- Equal steps, and prefixes of paths.
use Rattle.std.proofs.lemmas.Bool.{lt-ltb, le-ltb}
use Rattle.std.proofs.lemmas.Bool.Decides.{same_from_decides}
use Rattle.std.proofs.lemmas.List.{length-map}
use Rattle.std.proofs.Common.{◌<◌, ◌≤◌, nat_lt, IsTrue, ◌↔◌, ◌≡◌, refl, sym, ap, ◌∙◌, Bool, true, false, ◌&&◌, ℕ, List, [], ◌∷◌, length, take, map, Some, slice_get}
use Rattle.std.specs.Bool.{Decides}
use Rattle.std.specs.List.{starts_with}
use Rattle.std.specs.Cmp.{first_so, second_so}
use Rattle.std.specs.Cmp.Derive.Mapped.{pointwise-map}
use Rattle.std.specs.Cmp.Lexicographic.{pointwise, pointwise_decides, bytes_decides}
use Rattle.std.specs.Cmp.Derive.{both_true}
use Rattle.vortex_model.specs.Path.{Step, name, element}
use Rattle.vortex_dtype_path.specs.Steps.{eq_step, eq_steps, Begins, begins_properly}
use Rattle.vortex_dtype_path.specs.View.{step_of, eq_field}
use Rattle.vortex_dtype_path.specs.declared.field.Field.{Field}

abbrev name_inside : Step → List ℕ
name_inside (name x) = x
name_inside element = []

pub eq_step-decides : (s t : Step) → Decides (eq_step s t) (s ≡ t)
eq_step-decides (name x) (name y) = (λ e. ap name ((bytes_decides x y).0 e), λ e. (bytes_decides x y).1 (ap name_inside e))
eq_step-decides (name x) element = (λ e. absurd (cc (e)), λ e. absurd (cc (e)))
eq_step-decides element (name y) = (λ e. absurd (cc (e)), λ e. absurd (cc (e)))
eq_step-decides element element = (λ e. refl, λ e. refl)

pub eq_steps-decides : (p q : List Step) → Decides (eq_steps p q) (p ≡ q)
eq_steps-decides = pointwise_decides eq_step-decides

-- the test for a prefix
pub starts : (p q : List Step) → IsTrue (starts_with eq_step q p) ↔ Begins p q
starts [] q = (λ e. (q, refl), λ h. refl)
starts (x ∷ p) [] = (λ e. absurd (cc (e)), λ h. absurd (cc (h.1)))
starts (x ∷ p) (y ∷ q) =
    let Front : Bool = starts_with eq_step q p in (
      λ e. let more = (starts p q).0 (second_so (eq_step x y) Front e) in
          let same : x ≡ y = (eq_step-decides x y).0 (first_so (eq_step x y) Front e) in
          (more.0, λ i. same i ∷ more.1 i),
      λ h. let same : x ≡ y = cc (h.1) in both_true ((eq_step-decides x y).1 same) ((starts p q).1 (h.0, cc (h.1))),
    )

pub in_front : (p q : List Field) → pointwise eq_field p (take (length p) q) ≡ starts_with eq_step (map step_of q) (map step_of p)
in_front [] q = refl
in_front (x ∷ p) [] = refl
in_front (x ∷ p) (y ∷ q) = ap (λ b. eq_field x y && b) (in_front p q)

pub begun : (p q : List Field) → IsTrue (pointwise eq_field p (take (length p) q)) ↔ Begins (map step_of p) (map step_of q)
begun p q =
    let found = starts (map step_of p) (map step_of q) in
    (λ e. found.0 (sym (in_front p q) ∙ e), λ h. in_front p q ∙ found.1 h)

pub first_step : (fs gs : List Field) (x f : Field) (r : Bool) → Some x ≡ slice_get fs 0 → fs ≡ gs → r ≡ eq_field x f → IsTrue r ↔ Begins (step_of f ∷ []) (map step_of gs)
first_step fs [] x f r e g t = absurd (cc (e ∙ ap (λ l. slice_get l 0) g))
first_step fs (y ∷ gs) x f r e g t =
    let here : x ≡ y = cc (e ∙ ap (λ l. slice_get l 0) g) in (
      λ h. (map step_of gs, λ i. (sym ((eq_step-decides (step_of x) (step_of f)).0 (sym t ∙ h)) ∙ ap step_of here) i ∷ map step_of gs),
      λ h. let same : step_of f ≡ step_of y = cc (h.1) in t ∙ (eq_step-decides (step_of x) (step_of f)).1 (ap step_of here ∙ sym same),
    )

pub steps_alike : (p q : List Field) → pointwise eq_field p q ≡ eq_steps (map step_of p) (map step_of q)
steps_alike p q = sym (pointwise-map step_of eq_step p q)

-- the test for a proper prefix, over steps in the model
pub properly_begun : (ps qs : List Field) (p q : List Step) (r : Bool) → map step_of ps ≡ p → map step_of qs ≡ q → length ps < length qs → (IsTrue r ↔ Begins p q) → r ≡ begins_properly p q
properly_begun ps qs p q r e f h t =
    let n : nat_lt (length p) (length q) ≡ true = rw (← e, ← f, length-map ps step_of, length-map qs step_of) (lt-ltb _ _ h) in
    same_from_decides r (starts_with eq_step q p) t (starts p q) ∙ ap (λ b. b && starts_with eq_step q p) (sym n)

pub not_properly_begun : (ps qs : List Field) (p q : List Step) → map step_of ps ≡ p → map step_of qs ≡ q → length qs ≤ length ps → false ≡ begins_properly p q
not_properly_begun ps qs p q e f h =
    let n : nat_lt (length p) (length q) ≡ false = rw (← e, ← f, length-map ps step_of, length-map qs step_of) (le-ltb _ _ h) in
    ap (λ b. b && starts_with eq_step q p) (sym n)
