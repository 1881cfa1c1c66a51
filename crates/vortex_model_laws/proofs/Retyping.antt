-- Retyping twice is retyping at once.
use Rattle.std.proofs.Common.{◌≡◌, refl, ◌∙◌, ap, ℕ, suc, List, [], ◌∷◌, Bool, true, false, if◌then◌else◌, Option, Some, None}
use Rattle.vortex_model.specs.LogicalType.{LogicalType}
use Rattle.vortex_model.specs.Content.{Content}
use Rattle.vortex_model.specs.Convert.{converts}
use Rattle.vortex_model.specs.Kept.{type_fault}
use Rattle.vortex_model.specs.Refusal.{Refusal, not_convertible, or_else}
use Rattle.vortex_model_table.specs.Table.{Table, rows_of}
use Rattle.vortex_model_table.specs.Command.{retype, refusal, after, first_unconvertible}
use Rattle.vortex_model.specs.Laws.{ConversionsCompose, TestsOfConversionAreRight}
use Rattle.vortex_model.proofs.Refusals.{first_none, second_none}

module _ (compose : ConversionsCompose) (tests : TestsOfConversionAreRight) where
  one_at_once : (s k l : LogicalType) (c : Content) → converts s k c ≡ true → converts k l c ≡ true → converts s l c ≡ true
  one_at_once s k l c h g = (tests s l c).1 (compose s k l c ((tests s k c).0 h) ((tests k l c).0 g))

  by_tests : (i j n : ℕ) (s k l : LogicalType) (c : Content) (cs : List Content) (a b : Bool) → converts s k c ≡ a → converts k l c ≡ b →
      (if a then first_unconvertible (suc i) s k cs else Some (not_convertible i)) ≡ None → (if b then first_unconvertible (suc j) k l cs else Some (not_convertible j)) ≡ None →
      (first_unconvertible (suc i) s k cs ≡ None → first_unconvertible (suc j) k l cs ≡ None → first_unconvertible (suc n) s l cs ≡ None) →
      (if converts s l c then first_unconvertible (suc n) s l cs else Some (not_convertible n)) ≡ None
  by_tests i j n s k l c cs true true e f h g more =
      ap (λ d. if d then first_unconvertible (suc n) s l cs else Some (not_convertible n)) (one_at_once s k l c e f) ∙ more h g
  by_tests i j n s k l c cs false b e f h g more = absurd (cc (h))
  by_tests i j n s k l c cs true false e f h g more = absurd (cc (g))

  all_at_once : (i j n : ℕ) (s k l : LogicalType) (cs : List Content) → first_unconvertible i s k cs ≡ None → first_unconvertible j k l cs ≡ None → first_unconvertible n s l cs ≡ None
  all_at_once i j n s k l [] h g = refl
  all_at_once i j n s k l (c ∷ cs) h g =
      by_tests i j n s k l c cs (converts s k c) (converts k l c) refl refl h g (all_at_once (suc i) (suc j) (suc n) s k l cs)

  no_fault : (p q : Option Refusal) → p ≡ None → q ≡ None → or_else p q ≡ None
  no_fault p q e f = ap (λ x. or_else x q) e ∙ f

  pub at_once : (t : Table) (k l : LogicalType) → refusal t (retype k) ≡ None → refusal (after t (retype k)) (retype l) ≡ None →
      (refusal t (retype l) ≡ None) × (after t (retype l) ≡ after (after t (retype k)) (retype l))
  at_once t k l h g =
      let rows = rows_of t in (
        no_fault (type_fault l) (first_unconvertible 0 t.kind l rows) (first_none (type_fault l) (first_unconvertible 0 k l rows) g)
            (all_at_once 0 0 0 t.kind k l rows (second_none (type_fault k) (first_unconvertible 0 t.kind k rows) h) (second_none (type_fault l) (first_unconvertible 0 k l rows) g)),
        refl,
      )
