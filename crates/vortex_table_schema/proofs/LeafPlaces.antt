-- The leaf columns that paths lead to.
use Rattle.std.proofs.Common.{◌≡◌, refl, sym, ap, ◌∙◌, ℕ, List, [], ◌∷◌, true, false, Option, Some, None, option_map, option_and_then, if◌then◌else◌, ◌<◌, length, arith}
use Rattle.std.specs.Prelude.{is_some}
use Rattle.vortex_model.specs.LogicalType.{LogicalType}
use Rattle.vortex_model.specs.Kept.{is_leaf, is_leaf_at}
use Rattle.vortex_model.specs.Path.{Names, Positions, Step, name, element, positions, position_in, part_at, type_at, type_of_column}
use Rattle.vortex_model.specs.Refusal.{Refusal, not_a_leaf, unknown_path, or_else}
use Rattle.vortex_model_table.specs.Command.{names_of, positions_of, part_named, path_fault, leaf_fault}
use Rattle.vortex_table_schema.specs.LeafPlace.{IsLeafPlace}

-- ---- by the type of the column

leaf_type : (k : LogicalType) (xs : Names) (is : Positions) (t : LogicalType) → positions k xs ≡ Some is → type_of_column k xs ≡ Some t → is_leaf_at k is ≡ is_leaf t
leaf_type k xs is t e h = ap (λ o. elim o [ None ↦ false | Some part ↦ is_leaf part ]) (ap (option_and_then (type_at k)) (sym e) ∙ h)

pub at_leaf : (k : LogicalType) (xs : Names) (is : Positions) (t : LogicalType) → positions k xs ≡ Some is → type_of_column k xs ≡ Some t → is_leaf t ≡ true → IsLeafPlace k xs is
at_leaf k xs is t e h l = record { place = e; leaf = leaf_type k xs is t e h ∙ l }

pub at_none : (k : LogicalType) (xs : Names) (is js : Positions) (t : LogicalType) → positions k xs ≡ Some js → type_of_column k xs ≡ Some t → is_leaf t ≡ false → positions k xs ≡ Some is → is_leaf_at k is ≡ false
at_none k xs is js t f h l e = leaf_type k xs is t e h ∙ l

pub leads_nowhere : (k : LogicalType) (xs : Names) (is : Positions) → positions k xs ≡ None → positions k xs ≡ Some is → is_leaf_at k is ≡ false
leads_nowhere k xs is n e = absurd (cc (n, e))

pub ruleset by_type = (at_leaf, at_none, leads_nowhere)

-- ---- the part at a leaf's place

-- one of a list that isn't empty
pub one_of : {X : Type 0} (xs : List X) (i : ℕ) → i < length xs → X
one_of [] i h = absurd (omega (arith, h))
one_of (x ∷ xs) i h = x

pub record LeafPart (k : LogicalType) (is : Positions) : Type 0 where
  pub part : LogicalType
  pub there : type_at k is ≡ Some part
  pub leaf : is_leaf part ≡ true

pub leaf_part : (k : LogicalType) (is : Positions) → is_leaf_at k is ≡ true → LeafPart k is
leaf_part k is h = by_type (type_at k is) refl h
  where
    by_type : (o : Option LogicalType) → type_at k is ≡ o → elim o [ None ↦ false | Some part ↦ is_leaf part ] ≡ true → LeafPart k is
    by_type None e h = absurd (cc (h))
    by_type (Some part) e h = record { part = part; there = e; leaf = h }

-- ---- a path without a fault has positions

in_part : (k : LogicalType) (p : Option ℕ) (xs : Names) (part : LogicalType) → option_and_then (part_at k) p ≡ Some part → is_some (positions part xs) ≡ true →
    is_some (option_and_then (λ i. option_and_then (λ part. option_map (λ is. i ∷ is) (positions part xs)) (part_at k i)) p) ≡ true
in_part k None xs part e h = absurd (cc (e))
in_part k (Some i) xs part e h = ap (λ o. is_some (option_and_then (λ part. option_map (λ is. i ∷ is) (positions part xs)) o)) e ∙ mapped (positions part xs) h
  where
    mapped : (o : Option Positions) → is_some o ≡ true → is_some (option_map (λ is. i ∷ is) o) ≡ true
    mapped (Some is) g = refl
    mapped None g = absurd (cc (g))

pub in_type : (n : ℕ) (k : LogicalType) (steps : List Step) → path_fault n k steps ≡ None → is_some (positions k (names_of steps)) ≡ true
in_type n k [] e = refl
in_type n k (element ∷ steps) e = absurd (cc (e))
in_type n k (name x ∷ steps) e =
    let on : (part : LogicalType) → path_fault n part steps ≡ None → is_some (positions part (names_of steps)) ≡ true = λ part g. in_type n part steps g in
    by_part (part_named k x) refl e on
  where
    by_part : (o : Option LogicalType) → part_named k x ≡ o → ◌≡◌ {A = Option Refusal} (elim o [ None ↦ Some (unknown_path n) | Some part ↦ path_fault n part steps ]) None →
        ((part : LogicalType) → path_fault n part steps ≡ None → is_some (positions part (names_of steps)) ≡ true) → is_some (positions k (names_of (name x ∷ steps))) ≡ true
    by_part None h g f = absurd (cc (g))
    by_part (Some part) h g f = in_part k (position_in k x) (names_of steps) part h (f part g)

-- ---- the fault of a path and of what it leads to

placed : (o : Option Positions) (is : Positions) → o ≡ Some is → elim o [ None ↦ [] | Some is ↦ is ] ≡ is
placed o is e = ap (λ p. elim p [ None ↦ [] | Some is ↦ is ]) e

pub accepted_place : (k : LogicalType) (steps : List Step) (is : Positions) → IsLeafPlace k (names_of steps) is → positions_of k steps ≡ is
accepted_place k steps is h = placed (positions k (names_of steps)) is h.place

pub accepted_leaf : (n : ℕ) (k : LogicalType) (steps : List Step) (is : Positions) → path_fault n k steps ≡ None → IsLeafPlace k (names_of steps) is →
    or_else (path_fault n k steps) (leaf_fault k steps) ≡ None
accepted_leaf n k steps is e h =
    ap (λ p. or_else p (leaf_fault k steps)) e
    ∙ ap (λ js. if is_leaf_at k js then None else Some not_a_leaf) (accepted_place k steps is h)
    ∙ ap (λ b. if b then None else Some not_a_leaf) h.leaf

pub refused_leaf : (n : ℕ) (k : LogicalType) (steps : List Step) → path_fault n k steps ≡ None →
    ((is : Positions) → positions k (names_of steps) ≡ Some is → is_leaf_at k is ≡ false) →
    or_else (path_fault n k steps) (leaf_fault k steps) ≡ Some not_a_leaf
refused_leaf n k steps e h = ap (λ p. or_else p (leaf_fault k steps)) e ∙ by_place (positions k (names_of steps)) refl (in_type n k steps e)
  where
    by_place : (o : Option Positions) → positions k (names_of steps) ≡ o → is_some o ≡ true → leaf_fault k steps ≡ Some not_a_leaf
    by_place None g s = absurd (cc (s))
    by_place (Some is) g s =
        ap (λ js. if is_leaf_at k js then None else Some not_a_leaf) (placed (positions k (names_of steps)) is g)
        ∙ ap (λ b. if b then None else Some not_a_leaf) (h is g)

first_fault : (p q r : Option Refusal) → p ≡ r → (r ≡ None → ⊥) → or_else p q ≡ r
first_fault (Some x) q r e h = e
first_fault None q r e h = absurd (h (sym e))

pub ruleset by_place = (accepted_place, accepted_leaf, refused_leaf)
