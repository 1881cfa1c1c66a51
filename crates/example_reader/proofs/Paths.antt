-- The path of names on the way of positions leads to these positions.
use Rattle.std.proofs.Common.{◌≡◌, ℕ, zero, suc, List, [], ◌∷◌, map, Option, Some, None, option_map, option_and_then, refl, ap, ◌∙◌}
use Rattle.vortex_model.specs.LogicalType.{LogicalType, struct, Fields, no_fields, field, Nullability, nullable_inside}
use Rattle.vortex_model.specs.Path.{Names, Positions, name, field_at, type_at, positions}
use Rattle.vortex_model.specs.Kept.{names_distinct, part_fault, fields_fault}
use Rattle.vortex_model_table.specs.Command.{names_of, positions_of}
use Rattle.vortex_dtype_core.specs.Parts.{name_at}
use Rattle.vortex_table_zones.proofs.Named.{split_fault, place, fault_at}

-- ---- names on the way of positions

abbrev mutual
  pub names_at : LogicalType → Positions → Names
  names_at k [] = []
  names_at (struct fs n) (i ∷ is) = names_among fs i is
  names_at k (i ∷ is) = []

  pub names_among : Fields → ℕ → Positions → Names
  names_among no_fields i is = []
  names_among (field x k fs) zero is = x ∷ names_at k is
  names_among (field x k fs) (suc i) is = names_among fs i is

-- the first of these names, and the others
pub record IsOpened (fs : Fields) (i : ℕ) (is : Positions) (part : LogicalType) : Type 0 where
  pub first : List ℕ
  pub here : name_at fs i ≡ Some first
  pub names : names_among fs i is ≡ first ∷ names_at part is

pub opened : (fs : Fields) (i : ℕ) (is : Positions) (part : LogicalType) → field_at fs i ≡ Some part → IsOpened fs i is part
opened no_fields i is part e = absurd (cc e)
opened (field x k fs) zero is part e =
    let same : k ≡ part = cc e in
    record { first = x; here = refl; names = ap (λ (j : LogicalType). x ∷ names_at j is) same }
opened (field x k fs) (suc i) is part e =
    let rest = opened fs i is part e in
    record { first = rest.first; here = rest.here; names = rest.names }

-- ---- the part at a position

-- the part at the first of positions, and the type at the others
pub record IsInner (n : Nullability) (o : Option LogicalType) (is : Positions) (u : LogicalType) : Type 0 where
  pub part : LogicalType
  pub kind : LogicalType
  pub here : o ≡ Some part
  pub below : type_at part is ≡ Some kind
  pub whole : u ≡ nullable_inside n kind

inner_by : (n : Nullability) (part : LogicalType) (is : Positions) (u : LogicalType) (p : Option LogicalType) → type_at part is ≡ p →
    option_map (nullable_inside n) p ≡ Some u → IsInner n (Some part) is u
inner_by n part is u None q e = absurd (cc e)
inner_by n part is u (Some v) q e =
    let same : u ≡ nullable_inside n v = cc e in
    record { part = part; kind = v; here = refl; below = q; whole = same }

pub inner : (n : Nullability) (o : Option LogicalType) (is : Positions) (u : LogicalType) →
    option_map (nullable_inside n) (option_and_then (λ part. type_at part is) o) ≡ Some u → IsInner n o is u
inner n None is u e = absurd (cc e)
inner n (Some part) is u e = inner_by n part is u (type_at part is) refl e

-- ---- the way back

there : (k : LogicalType) (is : Positions) (u : LogicalType) → part_fault k ≡ None → type_at k is ≡ Some u → positions k (names_at k is) ≡ Some is
there k [] u f e = refl
there (struct fs n) (i ∷ is) u f e =
    let parts = split_fault (names_distinct fs) (fields_fault fs) f in
    let at_i = inner n (field_at fs i) is u e in
    let names = opened fs i is at_i.part at_i.here in
    ap (positions (struct fs n)) names.names
    ∙ ap (λ o. option_and_then (λ j. option_and_then (λ part. option_map (λ js. j ∷ js) (positions part (names_at at_i.part is))) (field_at fs j)) o) (place fs i names.first parts.0 names.here)
    ∙ ap (λ o. option_and_then (λ part. option_map (λ js. i ∷ js) (positions part (names_at at_i.part is))) o) at_i.here
    ∙ ap (option_map (λ js. i ∷ js)) (there at_i.part is at_i.kind (fault_at fs i at_i.part parts.1 at_i.here) at_i.below)
there k (i ∷ is) u f e = absurd (cc e)

names_back : (xs : Names) → names_of (map name xs) ≡ xs
names_back [] = refl
names_back (x ∷ xs) = ap (λ ys. x ∷ ys) (names_back xs)

pub way_back : (k : LogicalType) (is : Positions) (u : LogicalType) → part_fault k ≡ None → type_at k is ≡ Some u → positions_of k (map name (names_at k is)) ≡ is
way_back k is u f e =
    ap (λ (xs : Names). elim (positions k xs) [ None ↦ [] | Some js ↦ js ]) (names_back (names_at k is))
    ∙ ap (λ (o : Option Positions). elim o [ None ↦ [] | Some js ↦ js ]) (there k is u f e)
