-- The positions of a type's leaves lead to leaves.
use Rattle.std.proofs.Common.{◌≡◌, refl, sym, ap, ◌∙◌, ◌<◌, ◌+◌, ℕ, zero, suc, List, [], ◌∷◌, ◌++◌, length, get_or, Bool, true, false, Option, Some, None, option_map, option_and_then, if◌then◌else◌, append_assoc, append-nil, arith}
use Rattle.std.specs.List.{AllByRecursion}
use Rattle.vortex_model.specs.LogicalType.{LogicalType, struct, Fields, no_fields, field, Nullability, nullable_inside}
use Rattle.vortex_model.specs.Kept.{is_leaf, is_leaf_at}
use Rattle.vortex_model.specs.Path.{Positions, field_at, type_at}
use Rattle.vortex_model_laws.proofs.Columns.{leaf_within}
use Rattle.vortex_table_schema.specs.Leaves.{leaves_in, leaves_among, leaf_positions}

abbrev is_leaf_there : Option LogicalType → Bool
is_leaf_there o = elim o [ None ↦ false | Some leaf ↦ is_leaf leaf ]

leaf_inside : (n : Nullability) (o : Option LogicalType) → is_leaf_there o ≡ true → is_leaf_there (option_map (nullable_inside n) o) ≡ true
leaf_inside n None h = h
leaf_inside n (Some k) h = leaf_within n k ∙ h

-- these positions go on from here to a leaf of the type
record LeadsOn (here : Positions) (k : LogicalType) (js : Positions) : Type 0 where
  rest : Positions
  from : js ≡ here ++ rest
  leaf : is_leaf_at k rest ≡ true

abbrev AllLeadOn : Positions → LogicalType → List Positions → Type 0
AllLeadOn here k all = AllByRecursion (LeadsOn here k) all

both_lead : (here : Positions) (k : LogicalType) (xs ys : List Positions) → AllLeadOn here k xs → AllLeadOn here k ys → AllLeadOn here k (xs ++ ys)
both_lead here k [] ys h g = g
both_lead here k (x ∷ xs) ys h g = (h.0, both_lead here k xs ys h.1 g)

one_leads : (here : Positions) (k : LogicalType) (b : Bool) → is_leaf k ≡ b → AllLeadOn here k (if b then here ∷ [] else [])
one_leads here k true e = (record { rest = []; from = sym (append-nil here); leaf = e }, tt)
one_leads here k false e = tt

-- what leads on in a field does so in its record
of_field : (here : Positions) (fs : Fields) (n : Nullability) (i : ℕ) (part : LogicalType) (all : List Positions) → field_at fs i ≡ Some part →
    AllLeadOn (here ++ i ∷ []) part all → AllLeadOn here (struct fs n) all
of_field here fs n i part [] e h = tt
of_field here fs n i part (js ∷ all) e h = (
  record {
    rest = i ∷ h.0.rest;
    from = h.0.from ∙ append_assoc here (i ∷ []) h.0.rest;
    leaf =
        ap (λ o. is_leaf_there (option_map (nullable_inside n) (option_and_then (λ p. type_at p h.0.rest) o))) e
        ∙ leaf_inside n (type_at part h.0.rest) h.0.leaf;
  },
  of_field here fs n i part all e h.1,
)

-- these are the fields of a record from this position on
abbrev AreFrom : Fields → ℕ → Fields → Type 0
AreFrom all j fs = (i : ℕ) → field_at fs i ≡ field_at all (j + i)

mutual
  all_lead : (here : Positions) (k : LogicalType) → AllLeadOn here k (leaves_in here k)
  all_lead here (struct fs n) = fields_lead here fs n 0 fs (λ i. let e : 0 + i ≡ i = omega arith in ap (field_at fs) (sym e))
  all_lead here k = one_leads here k (is_leaf k) refl

  fields_lead : (here : Positions) (all : Fields) (n : Nullability) (j : ℕ) (fs : Fields) → AreFrom all j fs → AllLeadOn here (struct all n) (leaves_among here j fs)
  fields_lead here all n j no_fields h = tt
  fields_lead here all n j (field x k fs) h =
      both_lead here (struct all n) (leaves_in (here ++ j ∷ []) k) (leaves_among here (suc j) fs)
      (of_field here all n j k (leaves_in (here ++ j ∷ []) k) (let e : j + 0 ≡ j = omega arith in sym (h 0 ∙ ap (field_at all) e)) (all_lead (here ++ j ∷ []) k))
      (fields_lead here all n (suc j) fs (λ i. let e : j + suc i ≡ suc j + i = omega arith in h (suc i) ∙ ap (field_at all) e))

leads_at : (k : LogicalType) (all : List Positions) (i : ℕ) (is : Positions) → AllLeadOn [] k all → i < length all → is ≡ get_or all i is → is_leaf_at k is ≡ true
leads_at k [] i is h g e = absurd (omega (arith, g))
leads_at k (js ∷ all) zero is h g e = ap (is_leaf_at k) (e ∙ h.0.from) ∙ h.0.leaf
leads_at k (js ∷ all) (suc i) is h g e = leads_at k all i is h.1 (omega (arith, g)) e

pub leaf_leads : (k : LogicalType) (i : ℕ) (is : Positions) → i < length (leaf_positions k) → is ≡ get_or (leaf_positions k) i is → is_leaf_at k is ≡ true
leaf_leads k i is inside e = leads_at k (leaf_positions k) i is (all_lead [] k) inside e

-- ---- the type of a leaf

some_there : (o : Option LogicalType) → is_leaf_there o ≡ true → o ≡ None → ⊥
some_there None h e = cc (h)
some_there (Some k) h e = cc (e)

pub leaf_is_there : (k : LogicalType) (is : Positions) → is_leaf_at k is ≡ true → type_at k is ≡ None → ⊥
leaf_is_there k is h e = some_there (type_at k is) h e

pub leaf_of_type : (k : LogicalType) (is : Positions) (part : LogicalType) → is_leaf_at k is ≡ true → type_at k is ≡ Some part → is_leaf part ≡ true
leaf_of_type k is part h e = sym (ap is_leaf_there e) ∙ h
