-- The contents of a column of rows of a type.
use Rattle.std.proofs.Common.{◌≡◌, refl, sym, ap, ◌∙◌, subst, ℕ, zero, suc, List, [], ◌∷◌, Option, Some, None, option_map, option_and_then, map}
use Rattle.std.specs.List.{AllByRecursion}
use Rattle.std.proofs.lemmas.Option.{same_Some}
use Rattle.vortex_model.specs.LogicalType.{LogicalType, struct, extension, Fields, no_fields, field, Nullability, non_nullable, nullable, stored, nullable_inside, with_nullability}
use Rattle.vortex_model.specs.Content.{Content, null, tuple, Contents, nothing, first, nth}
use Rattle.vortex_model.specs.Valid.{IsContent, Holds, FieldsHold}
use Rattle.vortex_model.specs.Path.{Positions, field_at, type_at, at}
use Rattle.vortex_model.specs.Kept.{type_fault, part_fault, fields_fault, names_distinct, is_leaf}
use Rattle.vortex_model.specs.Refusal.{repeated_name}
use Rattle.vortex_model_laws.proofs.Held.{parts_faultless}
use Rattle.vortex_model.proofs.Kept.{loosened}
use Rattle.vortex_model.proofs.Refusals.{first_none, second_none}
use Rattle.vortex_model.proofs.Paths.{at_null}

null_loose : (k : LogicalType) → Holds (stored (with_nullability nullable k)) null
null_loose (extension id meta k) = null_loose k
null_loose k = tt

field_content : (fs : Fields) (cs : Contents) (i : ℕ) (part : LogicalType) → FieldsHold fs cs → field_at fs i ≡ Some part → Holds (stored part) (nth cs i)
field_content (field x k fs) (first c cs) zero part h e = subst (λ l. Holds (stored l) c) (same_Some k part e) h.0
field_content (field x k fs) (first c cs) (suc i) part h e = field_content fs cs i part h.1 e
field_content no_fields cs i part h e = absurd (cc (e))
field_content (field x k fs) nothing i part h e = absurd h

-- the type at positions after a first step: the field, and the type within it
pub record Stepped (n : Nullability) (o : Option LogicalType) (is : Positions) (t : LogicalType) : Type 0 where
  pub part : LogicalType
  pub inner : LogicalType
  pub there : o ≡ Some part
  pub type : type_at part is ≡ Some inner
  pub result : nullable_inside n inner ≡ t

stepped_within : (n : Nullability) (part : LogicalType) (is : Positions) (t : LogicalType) (p : Option LogicalType) → type_at part is ≡ p → option_map (nullable_inside n) p ≡ Some t → Stepped n (Some part) is t
stepped_within n part is t None e h = absurd (cc (h))
stepped_within n part is t (Some inner) e h = record { part = part; inner = inner; there = refl; type = e; result = same_Some (nullable_inside n inner) t h }

pub stepped : (n : Nullability) (o : Option LogicalType) (is : Positions) (t : LogicalType) → option_map (nullable_inside n) (option_and_then (λ part. type_at part is) o) ≡ Some t → Stepped n o is t
stepped n None is t e = absurd (cc (e))
stepped n (Some part) is t e = stepped_within n part is t (type_at part is) refl e

loosened_within : (n : Nullability) (k t : LogicalType) (c : Content) → nullable_inside n k ≡ t → Holds (stored k) c → Holds (stored t) c
loosened_within non_nullable k t c e h = subst (λ l. Holds (stored l) c) e h
loosened_within nullable k t c e h = subst (λ l. Holds (stored l) c) e (loosened k c h)

-- the content of a row at positions of its type is of the type there
pub at_type : (k : LogicalType) (is : Positions) (t : LogicalType) (row : Content) → type_at k is ≡ Some t → Holds (stored k) row → Holds (stored t) (at row is)
at_type k [] t row e h = subst (λ l. Holds (stored l) row) (same_Some k t e) h
at_type (struct fs n) (i ∷ is) t (tuple cs) e h =
    let s = stepped n (field_at fs i) is t e in
    loosened_within n s.inner t (at (nth cs i) is) s.result (at_type s.part is s.inner (nth cs i) s.type (field_content fs cs i s.part h s.there))
at_type (struct fs nullable) (i ∷ is) t null e h =
    let s = stepped nullable (field_at fs i) is t e in
    subst (λ c. Holds (stored t) c) (sym (at_null is)) (subst (λ l. Holds (stored l) null) s.result (null_loose s.inner))
at_type (struct fs n) (i ∷ is) t row e h = absurd h
at_type k (i ∷ is) t row e h = absurd (cc (e))

pub all_at_type : (k : LogicalType) (is : Positions) (t : LogicalType) (rows : List Content) → type_at k is ≡ Some t →
    AllByRecursion (IsContent k) rows → AllByRecursion (IsContent t) (map (λ row. at row is) rows)
all_at_type k is t [] e h = tt
all_at_type k is t (row ∷ rows) e h = (at_type k is t row e h.0, all_at_type k is t rows e h.1)

-- a leaf within a struct is one whatever the struct's nullability
pub leaf_within : (n : Nullability) (k : LogicalType) → is_leaf (nullable_inside n k) ≡ is_leaf k
leaf_within non_nullable k = refl
leaf_within nullable (extension id meta k) = refl
leaf_within nullable k = refl

-- ---- the fields of types that tables hold

kept_within : (n : Nullability) (k : LogicalType) → part_fault (nullable_inside n k) ≡ part_fault k
kept_within non_nullable k = refl
kept_within nullable (extension id meta k) = refl
kept_within nullable k = refl

field_kept : (fs : Fields) (i : ℕ) (part : LogicalType) → fields_fault fs ≡ None → field_at fs i ≡ Some part → part_fault part ≡ None
field_kept (field x k fs) zero part h e = ap part_fault (sym (same_Some k part e)) ∙ first_none (part_fault k) (fields_fault fs) h
field_kept (field x k fs) (suc i) part h e = field_kept fs i part (second_none (part_fault k) (fields_fault fs) h) e
field_kept no_fields i part h e = absurd (cc (e))

-- a table can hold each part of what it can hold
part_kept : (k : LogicalType) (is : Positions) (t : LogicalType) → part_fault k ≡ None → type_at k is ≡ Some t → part_fault t ≡ None
part_kept k [] t h e = ap part_fault (sym (same_Some k t e)) ∙ h
part_kept (struct fs n) (i ∷ is) t h e =
    let s = stepped n (field_at fs i) is t e in
    ap part_fault (sym s.result) ∙ kept_within n s.inner
    ∙ part_kept s.part is s.inner (field_kept fs i s.part (parts_faultless (names_distinct fs) (fields_fault fs) repeated_name h) s.there) s.type
part_kept k (i ∷ is) t h e = absurd (cc (e))

pub at_kept : (k : LogicalType) (is : Positions) (t : LogicalType) → type_fault k ≡ None → type_at k is ≡ Some t → part_fault t ≡ None
at_kept (struct fs non_nullable) is t h e = part_kept (struct fs non_nullable) is t h e
at_kept k is t h e = absurd (cc (h))
