-- Parts of a type that a table can hold, by the names of fields.
use Rattle.std.proofs.Common.{◌≡◌, ◌<◌, ◌∷◌, [], ◌++◌, ℕ, zero, suc, Bool, true, false, not, ◌&&◌, ◌||◌, List, length, get_or, Option, Some, None, option_map, option_and_then, if◌then◌else◌, refl, sym, ap, subst, ◌∙◌}
use Rattle.std.proofs.lemmas.Option.{slice_get_read}
use Rattle.std.proofs.lemmas.Slice.Eq.{bytes_eq-Decides}
use Rattle.std.specs.Str.{bytes_eq}
use Rattle.vortex_model.specs.LogicalType.{LogicalType, null_only, struct, extension, Fields, no_fields, field, Nullability, non_nullable, nullable, with_nullability, nullable_inside}
use Rattle.vortex_model.specs.Kept.{has_name, names_distinct, part_fault, fields_fault, type_fault}
use Rattle.vortex_model.specs.Path.{Names, Positions, Step, name, element, position_named, field_at, type_at, positions}
use Rattle.vortex_model.specs.Refusal.{Refusal, repeated_name}
use Rattle.vortex_model.proofs.Refusals.{first_none, second_none}
use Rattle.vortex_model_table.specs.Command.{names_of, part_named, positions_of}
use Rattle.vortex_model_table.specs.Scan.{kind_at}
use Rattle.vortex_dtype_core.specs.Parts.{fields_in_type, name_at}
use Rattle.vortex_dtype_core.specs.View.{type_of, fields_of}
use Rattle.vortex_dtype_core.specs.declared.struct_fields.StructField.{StructField}
use Rattle.vortex_dtype_core.proofs.Views.{name_at-within, field_at-fields_of}
use Rattle.vortex_table_zones.specs.Zone.{LeadsTo, LeadsToFields}

-- ---- names that are distinct

pub split_fault : (b : Bool) (o : Option Refusal) → (if b then o else Some repeated_name) ≡ None → (b ≡ true) × (o ≡ None)
split_fault true o h = (refl, h)
split_fault false o h = absurd (cc h)

both : (a b : Bool) → (a && b) ≡ true → (a ≡ true) × (b ≡ true)
both true b h = (refl, h)
both false b h = absurd (cc h)

neither : (a b : Bool) → not (a || b) ≡ true → (a ≡ false) × (not b ≡ true)
neither true b h = absurd (cc h)
neither false b h = (refl, h)

differs : (fs : Fields) (y x : List ℕ) (i : ℕ) → not (has_name y fs) ≡ true → name_at fs i ≡ Some x → bytes_eq y x ≡ false
differs no_fields y x i h e = absurd (cc e)
differs (field z k fs) y x zero h e =
    let same : x ≡ z = cc e in
    ap (bytes_eq y) same ∙ (neither (bytes_eq y z) (has_name y fs) h).0
differs (field z k fs) y x (suc i) h e = differs fs y x i (neither (bytes_eq y z) (has_name y fs) h).1 e

-- a field is the first of its name
pub place : (fs : Fields) (i : ℕ) (x : List ℕ) → names_distinct fs ≡ true → name_at fs i ≡ Some x → position_named fs x ≡ Some i
place no_fields i x d e = absurd (cc e)
place (field y k fs) zero x d e =
    let same : y ≡ x = cc e in
    ap (λ (b : Bool). if b then Some 0 else option_map suc (position_named fs x)) ((bytes_eq-Decides y x).1 same)
place (field y k fs) (suc i) x d e =
    let parts = both (not (has_name y fs)) (names_distinct fs) d in
    ap (λ (b : Bool). if b then Some 0 else option_map suc (position_named fs x)) (differs fs y x i parts.0 e)
    ∙ ap (option_map suc) (place fs i x parts.1 e)

pub fault_at : (fs : Fields) (i : ℕ) (part : LogicalType) → fields_fault fs ≡ None → field_at fs i ≡ Some part → part_fault part ≡ None
fault_at no_fields i part h e = absurd (cc e)
fault_at (field x k fs) zero part h e =
    let same : part ≡ k = cc e in
    ap part_fault same ∙ first_none (part_fault k) (fields_fault fs) h
fault_at (field x k fs) (suc i) part h e = fault_at fs i part (second_none (part_fault k) (fields_fault fs) h) e

-- the root of a table's rows is a part that it can hold
pub kept_part : (k : LogicalType) → type_fault k ≡ None → part_fault k ≡ None
kept_part (struct fs non_nullable) h = h
kept_part k h = absurd (cc h)

-- ---- the field of a name

pub record IsNamed (fs : Fields) (x : List ℕ) (part : LogicalType) : Type 0 where
  pub index : ℕ
  pub place_is : position_named fs x ≡ Some index
  pub part_is : field_at fs index ≡ Some part

named_by : (fs : Fields) (x : List ℕ) (part : LogicalType) (o : Option ℕ) → position_named fs x ≡ o → option_and_then (field_at fs) o ≡ Some part → IsNamed fs x part
named_by fs x part None e h = absurd (cc h)
named_by fs x part (Some i) e h = record { index = i; place_is = e; part_is = h }

named : (fs : Fields) (n : Nullability) (x : List ℕ) (part : LogicalType) → part_named (struct fs n) x ≡ Some part → IsNamed fs x part
named fs n x part h = named_by fs x part (position_named fs x) refl h

-- ---- where a path leads

extended : (path : List Step) (k part inner : LogicalType) (x : List ℕ) → LeadsTo k path part → part_named part x ≡ Some inner → LeadsTo k (path ++ name x ∷ []) inner
extended [] k part inner x e h = (inner, ap (λ (j : LogicalType). part_named j x) (sym e) ∙ h, refl)
extended (name y ∷ path) k part inner x h g = (h.0, h.1, extended path h.0 part inner x h.2 g)
extended (element ∷ path) k part inner x h g = absurd h

kept_along : (path : List Step) (k part : LogicalType) → part_fault k ≡ None → LeadsTo k path part → part_fault part ≡ None
kept_along [] k part h e = ap part_fault e ∙ h
kept_along (name x ∷ path) (struct fs n) part h g =
    let at_x = named fs n x g.0 g.1 in
    kept_along path g.0 part (fault_at fs at_x.index g.0 (split_fault (names_distinct fs) (fields_fault fs) h).1 at_x.part_is) g.2
kept_along (name x ∷ path) k part h g = absurd (cc g.1)
kept_along (element ∷ path) k part h g = absurd g

-- to a field of a struct that it leads to
pub into_field : (k : LogicalType) (path new : List Step) (fields : List StructField) (i : ℕ) (f : StructField) → type_fault k ≡ None → LeadsToFields k path (fields_of fields) →
    i < length fields → f ≡ get_or fields i f → new ≡ path ++ name f.name ∷ [] → LeadsTo k new (type_of f.dtype)
into_field k path new fields i f kept leads l e made =
    let fs = fields_of fields in
    let fault = kept_along path k (struct fs leads.0) (kept_part k kept) leads.1 in
    let at_i : position_named fs f.name ≡ Some i =
    place fs i f.name (split_fault (names_distinct fs) (fields_fault fs) fault).0 (sym (name_at-within fields i f l e)) in
    let part : field_at fs i ≡ Some (type_of f.dtype) =
    field_at-fields_of fields i ∙ ap (option_map (λ g. type_of g.dtype)) (slice_get_read fields (length fields) i f refl l e) in
    subst (λ (p : List Step). LeadsTo k p (type_of f.dtype)) (sym made)
    (extended path k (struct fs leads.0) (type_of f.dtype) f.name leads.1 (ap (option_and_then (field_at fs)) at_i ∙ part))

pub to_fields : (k : LogicalType) (path : List Step) (part : LogicalType) (fs : Fields) → LeadsTo k path part → Some fs ≡ fields_in_type part → LeadsToFields k path fs
to_fields k path (struct gs n) fs h e =
    let same : gs ≡ fs = cc e in
    (n, subst (λ (hs : Fields). LeadsTo k path (struct hs n)) same h)
to_fields k path part fs h e = absurd (cc e)

pub at_home : (k part : LogicalType) (path : List Step) → path ≡ [] → part ≡ k → LeadsTo k path part
at_home k part path e same = subst (λ (p : List Step). LeadsTo k p part) (sym e) same

-- ---- the type there

-- where a part is by its positions, and its type up to nullability
record IsReached (k : LogicalType) (xs : Names) (part : LogicalType) : Type 0 where
  pub at : Positions
  pub there : positions k xs ≡ Some at
  pub kind : LogicalType
  pub kind_is : type_at k at ≡ Some kind
  pub same : with_nullability nullable kind ≡ with_nullability nullable part

nullable_twice : (k : LogicalType) → with_nullability nullable (with_nullability nullable k) ≡ with_nullability nullable k
nullable_twice (extension id meta k) = ap (extension id meta) (nullable_twice k)
nullable_twice k = refl

nullable_anyway : (n : Nullability) (k : LogicalType) → with_nullability nullable (nullable_inside n k) ≡ with_nullability nullable k
nullable_anyway non_nullable k = refl
nullable_anyway nullable k = nullable_twice k

reached : (path : List Step) (k part : LogicalType) → LeadsTo k path part → IsReached k (names_of path) part
reached [] k part e = record { at = []; there = refl; kind = k; kind_is = refl; same = ap (with_nullability nullable) (sym e) }
reached (name x ∷ path) (struct fs n) part h =
    let at_x = named fs n x h.0 h.1 in
    let below = reached path h.0 part h.2 in
    record {
      at = at_x.index ∷ below.at;
      there = ap (option_and_then (λ i. option_and_then (λ inner. option_map (λ is. i ∷ is) (positions inner (names_of path))) (field_at fs i))) at_x.place_is
          ∙ ap (option_and_then (λ inner. option_map (λ is. at_x.index ∷ is) (positions inner (names_of path)))) at_x.part_is
          ∙ ap (option_map (λ is. at_x.index ∷ is)) below.there;
      kind = nullable_inside n below.kind;
      kind_is = ap (λ o. option_map (nullable_inside n) (option_and_then (λ inner. type_at inner below.at) o)) at_x.part_is
          ∙ ap (option_map (nullable_inside n)) below.kind_is;
      same = nullable_anyway n below.kind ∙ below.same;
    }
reached (name x ∷ path) k part h = absurd (cc h.1)
reached (element ∷ path) k part h = absurd h

-- the type of a column is that of the part, up to nullability
pub kind_there : (k : LogicalType) (path : List Step) (part : LogicalType) → LeadsTo k path part →
    with_nullability nullable (kind_at k (positions_of k path)) ≡ with_nullability nullable part
kind_there k path part h =
    let there = reached path k part h in
    ap (λ (o : Option Positions). with_nullability nullable (kind_at k (elim o [ None ↦ [] | Some is ↦ is ]))) there.there
    ∙ ap (λ (o : Option LogicalType). with_nullability nullable (elim o [ None ↦ null_only | Some t ↦ t ])) there.kind_is ∙ there.same
