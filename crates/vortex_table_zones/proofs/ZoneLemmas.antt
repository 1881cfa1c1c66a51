-- The zone of a group, by what is described of its columns.
use Rattle.std.proofs.Common.{◌≡◌, ◌+◌, ◌<◌, ◌≤◌, ℕ, pos, true, false, List, [], ◌∷◌, ◌++◌, length, map, drop, get_or, Option, Some, None, refl, sym, ap, subst, ◌∙◌, inl, inr}
use Rattle.std.proofs.lemmas.List.{map-append, drop_all}
use Rattle.vortex_model.specs.LogicalType.{LogicalType, struct, Fields, field}
use Rattle.vortex_model.specs.Content.{Content, null, integer, tuple, Contents, nothing, first, contents_of}
use Rattle.vortex_model.specs.Kept.{is_leaf}
use Rattle.vortex_model.specs.Path.{Step, name}
use Rattle.vortex_model.specs.Refusal.{Refusal}
use Rattle.vortex_model_table.specs.Command.{describe, positions_of, refusal}
use Rattle.vortex_model_table.specs.Reply.{Describes}
use Rattle.vortex_model_table.specs.Statistics.{shown}
use Rattle.vortex_model_table.specs.Table.{Table}
use Rattle.vortex_model_table.specs.ZoneMap.{ZoneMap}
use Rattle.vortex_dtype_core.specs.Parts.{fields_in_type}
use Rattle.vortex_dtype_core.specs.View.{NamedType, type_of, fields_of}
use Rattle.vortex_dtype_core.specs.declared.struct_fields.StructField.{StructField}
use Rattle.vortex_dtype_core.proofs.Views.{field_of-parts}
use Rattle.vortex_scalar_value.specs.View.{raws_in, content_in}
use Rattle.vortex_scalar_value.specs.declared.scalar_value.ScalarValue.{ScalarValue}
use Rattle.vortex_scalar_value.proofs.Views.{raw_of-Tuple}
use Rattle.vortex_table_core.specs.GroupRows.{rows_of_group}
use Rattle.vortex_table_schema.specs.Description.{IsDescription}
use Rattle.vortex_table_schema.specs.Error.{Explains}
use Rattle.vortex_table_schema.specs.declared.description.Description.{Description}
use Rattle.vortex_table_schema.specs.declared.error.TableError.{TableError}
use Rattle.vortex_table_schema.specs.declared.error.TableError.TheVariants as error
use Rattle.vortex_table_zones.specs.Zone.{told, known_of, IsTold, IsOfEach, AreOfEach, IsZoneOf}
use Rattle.vortex_table_zones.specs.declared.statistic.Statistic.{Statistic}
use Rattle.vortex_table_zones.specs.declared.statistic.Statistic.TheVariants.{Lower, Upper, NullCount}
use Rattle.vortex_table_zones.proofs.Named.{at_home}
use Rattle.vortex_table_zones.proofs.TypeLemmas.{next_field}
use Rattle.vortex_table_zones.proofs.ValidZones.{null_known, leaf_valid, other_valid, record_valid, zone_valid}

-- ---- a column

known_told : (s : Statistic) (d : Description) (z : ZoneMap) → IsDescription d z → known_of s d ≡ told s z
known_told Lower d z is = ap shown is.min
known_told Upper d z is = ap shown is.max
known_told NullCount d z is = ap shown is.null_count

pub is_told : (t : Table) (i : ℕ) (s : Statistic) (path : List Step) (c : Content) (d : Description) → (z : ZoneMap) × Describes t (positions_of t.kind path) i z × IsDescription d z →
    c ≡ known_of s d → IsTold t i s path c
is_told t i s path c d h e = inl (h.0, h.1, e ∙ known_told s d h.0 h.2)

not_none : (o : Option Refusal) (e : TableError) → Explains ⊥ o e → (e ≡ error.Memory → ⊥) → o ≡ None → ⊥
not_none o error.Memory h other none = other refl
not_none o error.Total h other none = h
not_none o error.RuleFault h other none = h
not_none o e h other none = absurd (cc (sym none ∙ h))

pub is_null : (t : Table) (i : ℕ) (s : Statistic) (path : List Step) (c : Content) (e : TableError) → Explains ⊥ (refusal t (describe path i)) e → (e ≡ error.Memory → ⊥) →
    c ≡ null → IsTold t i s path c
is_null t i s path c e h other none = inr (not_none (refusal t (describe path i)) e h other, none)

pub ruleset described = (is_told, is_null, null_known)

-- ---- a column, and columns of a record

pub of_column : (P : List Step → Content → Type 0) (path : List Step) (k : LogicalType) (c : Content) → None ≡ fields_in_type k → (is_leaf k ≡ true → P path c) →
    (is_leaf k ≡ false → c ≡ null) → IsOfEach P path k c
of_column P path (struct fs n) c e leaf other = absurd (cc e)
of_column P path k c e leaf other = (leaf, other)

pub of_record : (P : List Step → Content → Type 0) (path : List Step) (k : LogicalType) (fs : Fields) (cs : Contents) → Some fs ≡ fields_in_type k → AreOfEach P path fs cs →
    IsOfEach P path k (tuple cs)
of_record P path (struct gs n) fs cs e h =
    let same : fs ≡ gs = cc e in
    subst (λ (is : Fields). AreOfEach P path is cs) same h
of_record P path k fs cs e h = absurd (cc e)

abbrev pub put : List Content → Contents → Contents
put [] cs = cs
put (c ∷ done) cs = first c (put done cs)

put_more : (done : List Content) (c : Content) (cs : Contents) → put done (first c cs) ≡ put (done ++ c ∷ []) cs
put_more [] c cs = refl
put_more (d ∷ done) c cs = ap (first d) (put_more done c cs)

all_put : (vs : List (Option ScalarValue)) → put (map content_in vs) nothing ≡ contents_of (raws_in vs)
all_put [] = refl
all_put (v ∷ vs) = ap (first (content_in v)) (all_put vs)

-- where the values of the fields from the index on are right, all are
abbrev pub AreSoFar : (List Step → Content → Type 0) → List Step → List StructField → ℕ → List (Option ScalarValue) → Type 0
AreSoFar P path fields i values =
    (cs : Contents) → AreOfEach P path (fields_of (drop i fields)) cs → AreOfEach P path (fields_of fields) (put (map content_in values) cs)

module _ (P : List Step → Content → Type 0) (path : List Step) (fields : List StructField) where
  pub fields_next : (i : ℕ) (f : StructField) (old new : List (Option ScalarValue)) (v : Option ScalarValue) → i < length fields → f ≡ get_or fields i f →
      new ≡ old ++ v ∷ [] → IsOfEach P (path ++ name f.name ∷ []) (type_of f.dtype) (content_in v) → AreSoFar P path fields i old → AreSoFar P path fields (i + 1) new
  fields_next i f old new v l is made one so = λ cs rest.
      let here : AreOfEach P path (fields_of (f ∷ drop (i + 1) fields)) (first (content_in v) cs) =
      subst (λ (p : NamedType). AreOfEach P path (field p.0 p.1 (fields_of (drop (i + 1) fields))) (first (content_in v) cs)) (sym (field_of-parts f)) (one, rest) in
      let all = so (first (content_in v) cs)
      (subst (λ (fs : List StructField). AreOfEach P path (fields_of fs) (first (content_in v) cs)) (sym (next_field fields i f l is)) here) in
      let values : put (map content_in old) (first (content_in v) cs) ≡ put (map content_in new) cs =
      put_more (map content_in old) (content_in v) cs
      ∙ sym (ap (λ (vs : List (Option ScalarValue)). put (map content_in vs) cs) made ∙ ap (λ (ds : List Content). put ds cs) (map-append content_in old (v ∷ []))) in
      subst (AreOfEach P path (fields_of fields)) values all

  pub fields_done : (i : ℕ) (values : List (Option ScalarValue)) → length fields ≤ i → AreSoFar P path fields i values →
      AreOfEach P path (fields_of fields) (contents_of (raws_in values))
  fields_done i values l so =
      subst (AreOfEach P path (fields_of fields)) (all_put values)
      (so nothing (subst (λ (fs : List StructField). AreOfEach P path (fields_of fs) nothing) (sym (drop_all i fields l)) tt))

pub ruleset columns = (of_column, of_record, leaf_valid, other_valid, record_valid, raw_of-Tuple)

-- ---- the zone

pub zone_made : (t : Table) (i n : ℕ) (lower upper nulls zone : Content) → n ≡ length (rows_of_group t i) →
    zone ≡ tuple (first (integer (pos n)) (first lower (first upper (first nulls nothing)))) →
    IsOfEach (IsTold t i Lower) [] t.kind lower → IsOfEach (IsTold t i Upper) [] t.kind upper → IsOfEach (IsTold t i NullCount) [] t.kind nulls → IsZoneOf t i zone
zone_made t i n lower upper nulls zone count is low high counts = record {
  lower = lower;
  upper = upper;
  nulls = nulls;
  fields = is ∙ ap (λ (m : ℕ). tuple (first (integer (pos m)) (first lower (first upper (first nulls nothing))))) count;
  lower_of = low;
  upper_of = high;
  nulls_of = counts;
}

pub ruleset zone = (at_home, zone_made, zone_valid, raw_of-Tuple)
