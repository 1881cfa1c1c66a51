-- The raw values of a zone are of the zone's type.
use Rattle.std.proofs.Common.{◌≡◌, ◌<◌, ◌≤◌, ◌+◌, ◌^◌, ◌&&◌, ◌∷◌, [], ◌++◌, ℕ, pos, Bool, true, false, List, length, map, drop, get_or, Option, Some, None, IfSome, IsTrue, if◌then◌else◌, refl, sym, ap, subst, ◌∙◌, arith}
use Rattle.std.proofs.lemmas.Int.{ints}
use Rattle.std.proofs.lemmas.List.{map-append, drop_all}
use Rattle.vortex_model.specs.LogicalType.{LogicalType, integer_type, u64, struct, extension, Fields, field, non_nullable, nullable, with_nullability}
use Rattle.vortex_model.specs.Content.{Raw, raw_null, raw_number, raw_tuple, Raws, no_raws, raw_first}
use Rattle.vortex_model.specs.Valid.{in_range, valid, fields_have}
use Rattle.vortex_model.specs.Path.{Step}
use Rattle.vortex_model.proofs.Passes.{range_passes}
use Rattle.vortex_model_table.specs.Command.{positions_of}
use Rattle.vortex_model_table.specs.Scan.{kind_at}
use Rattle.vortex_model_table.specs.Typing.{has_bounds, type_of_bound}
use Rattle.vortex_dtype_core.specs.Parts.{fields_in_type}
use Rattle.vortex_dtype_core.specs.View.{NamedType, type_of, fields_of}
use Rattle.vortex_dtype_core.specs.declared.struct_fields.StructField.{StructField}
use Rattle.vortex_dtype_core.proofs.Views.{field_of-parts}
use Rattle.vortex_scalar_value.specs.View.{raw_in, raws_in, raws_from}
use Rattle.vortex_scalar_value.specs.declared.scalar_value.ScalarValue.{ScalarValue}
use Rattle.vortex_table_plan.specs.Described as described
use Rattle.vortex_table_plan.specs.Described.{IsOfLeaf}
use Rattle.vortex_table_schema.specs.declared.description.Description.{Description}
use Rattle.vortex_table_zones.specs.Types.{leaf_known, known_type, known_fields, zone_type}
use Rattle.vortex_table_zones.specs.Zone.{is_count, IsNullOr, IsOfKnown, LeadsTo}
use Rattle.vortex_table_zones.specs.declared.statistic.Statistic.{Statistic}
use Rattle.vortex_table_zones.specs.declared.statistic.Statistic.TheVariants.{Lower, Upper, NullCount}
use Rattle.vortex_table_zones.proofs.Named.{kind_there}
use Rattle.vortex_table_zones.proofs.TypeLemmas.{of_leaf, next_field}

-- ---- a statistic

null_valid : (k : LogicalType) → IsTrue (valid (with_nullability nullable k) raw_null)
null_valid (extension id meta k) = null_valid k
null_valid k = refl

-- where nothing is known
pub null_known : (s : Statistic) (k : LogicalType) → IsTrue (valid (leaf_known (is_count s) k) raw_null)
null_known Lower k = null_valid k
null_known Upper k = null_valid k
null_known NullCount k = refl

bound_is : (b : Bool) (k l : LogicalType) → (if b then Some k else None) ≡ Some l → k ≡ l
bound_is true k l e = cc e
bound_is false k l e = absurd (cc e)

of_bound : (k : LogicalType) (o : Option LogicalType) (r : Raw) → IfSome o (λ l. type_of_bound k ≡ Some l) → IsNullOr o r → IsTrue (valid (with_nullability nullable k) r)
of_bound k None r h v = subst (λ (s : Raw). IsTrue (valid (with_nullability nullable k) s)) (sym v) (null_valid k)
of_bound k (Some l) r h v = subst (λ (m : LogicalType). IsTrue (valid m r)) (sym (bound_is (has_bounds k) (with_nullability nullable k) l h)) v

count_nullable : (r : Raw) → IsTrue (valid (integer_type u64 non_nullable) r) → IsTrue (valid (integer_type u64 nullable) r)
count_nullable raw_null h = refl
count_nullable (raw_number i z) h = h
count_nullable r h = absurd (cc h)

of_count : (o : Option LogicalType) (r : Raw) → o ≡ Some (integer_type u64 non_nullable) → IsNullOr o r → IsTrue (valid (integer_type u64 nullable) r)
of_count o r e h = count_nullable r (subst (λ (p : Option LogicalType). IsNullOr p r) e h)

pub lower_valid : (d : Description) (r : Raw) → IsOfKnown d.min r → (k : LogicalType) → IsOfLeaf k d → IsTrue (valid (leaf_known false k) r)
lower_valid d r h k is = of_bound k (described.known_type d.min) r is.min h

pub upper_valid : (d : Description) (r : Raw) → IsOfKnown d.max r → (k : LogicalType) → IsOfLeaf k d → IsTrue (valid (leaf_known false k) r)
upper_valid d r h k is = of_bound k (described.known_type d.max) r is.max h

pub count_valid : (d : Description) (r : Raw) → IsOfKnown d.null_count r → (k : LogicalType) → IsOfLeaf k d → IsTrue (valid (leaf_known true k) r)
count_valid d r h k is = of_count (described.known_type d.null_count) r is.null_count h

pub ruleset statistics = (lower_valid, upper_valid, count_valid)

-- ---- a column

same_known : (s : Statistic) (k l : LogicalType) → with_nullability nullable k ≡ with_nullability nullable l → leaf_known (is_count s) k ≡ leaf_known (is_count s) l
same_known Lower k l e = e
same_known Upper k l e = e
same_known NullCount k l e = refl

-- at the path that leads to it
pub leaf_valid : (s : Statistic) (k : LogicalType) (path : List Step) (part : LogicalType) (r : Raw) → LeadsTo k path part → None ≡ fields_in_type part →
    IsTrue (valid (leaf_known (is_count s) (kind_at k (positions_of k path))) r) → IsTrue (valid (known_type (is_count s) part) r)
leaf_valid s k path part r leads none h =
    subst (λ (l : LogicalType). IsTrue (valid l r)) (same_known s (kind_at k (positions_of k path)) part (kind_there k path part leads) ∙ sym (of_leaf (is_count s) part none)) h

-- no leaf
pub other_valid : (s : Statistic) (part : LogicalType) → None ≡ fields_in_type part → IsTrue (valid (known_type (is_count s) part) raw_null)
other_valid s part none = subst (λ (l : LogicalType). IsTrue (valid l raw_null)) (sym (of_leaf (is_count s) part none)) (null_known s part)

-- ---- columns of a record

pub record_valid : (counts : Bool) (k : LogicalType) (fs : Fields) (rs : Raws) (r : Raw) → Some fs ≡ fields_in_type k → r ≡ raw_tuple rs → IsTrue (fields_have (known_fields counts fs) rs) →
    IsTrue (valid (known_type counts k) r)
record_valid counts (struct gs n) fs rs r e is h =
    let same : fs ≡ gs = cc e in
    subst (λ (s : Raw). IsTrue (valid (struct (known_fields counts gs) non_nullable) s)) (sym is) (subst (λ (hs : Fields). IsTrue (fields_have (known_fields counts hs) rs)) same h)
record_valid counts k fs rs r e is h = absurd (cc e)

abbrev put : List Raw → Raws → Raws
put [] rs = rs
put (r ∷ done) rs = raw_first r (put done rs)

put_more : (done : List Raw) (r : Raw) (rs : Raws) → put done (raw_first r rs) ≡ put (done ++ r ∷ []) rs
put_more [] r rs = refl
put_more (d ∷ done) r rs = ap (raw_first d) (put_more done r rs)

all_put : (done : List Raw) → put done no_raws ≡ raws_from done
all_put [] = refl
all_put (r ∷ done) = ap (raw_first r) (all_put done)

-- where the values of the fields from the index on are valid, all are
abbrev pub AreValidSoFar : Bool → List StructField → ℕ → List (Option ScalarValue) → Type 0
AreValidSoFar counts fields i values =
    (rs : Raws) → IsTrue (fields_have (known_fields counts (fields_of (drop i fields))) rs) → IsTrue (fields_have (known_fields counts (fields_of fields)) (put (map raw_in values) rs))

both_so : (a b : Bool) → IsTrue a → IsTrue b → IsTrue (a && b)
both_so a b h g = ap (λ (c : Bool). c && b) h ∙ g

module _ (counts : Bool) (fields : List StructField) where
  pub valid_start : AreValidSoFar counts fields 0 []
  valid_start rs h = h

  pub valid_next : (i : ℕ) (f : StructField) (old new : List (Option ScalarValue)) (v : Option ScalarValue) → i < length fields → f ≡ get_or fields i f →
      new ≡ old ++ v ∷ [] → IsTrue (valid (known_type counts (type_of f.dtype)) (raw_in v)) → AreValidSoFar counts fields i old → AreValidSoFar counts fields (i + 1) new
  valid_next i f old new v l is made one so = λ rs rest.
      let later : List StructField = drop (i + 1) fields in
      let here : IsTrue (fields_have (known_fields counts (fields_of (f ∷ later))) (raw_first (raw_in v) rs)) =
      subst (λ (p : NamedType). IsTrue (fields_have (known_fields counts (field p.0 p.1 (fields_of later))) (raw_first (raw_in v) rs))) (sym (field_of-parts f))
      (both_so (valid (known_type counts (type_of f.dtype)) (raw_in v)) (fields_have (known_fields counts (fields_of later)) rs) one rest) in
      let all = so (raw_first (raw_in v) rs)
      (subst (λ (fs : List StructField). IsTrue (fields_have (known_fields counts (fields_of fs)) (raw_first (raw_in v) rs))) (sym (next_field fields i f l is)) here) in
      let values : put (map raw_in old) (raw_first (raw_in v) rs) ≡ put (map raw_in new) rs =
      put_more (map raw_in old) (raw_in v) rs
      ∙ sym (ap (λ (vs : List (Option ScalarValue)). put (map raw_in vs) rs) made ∙ ap (λ (ds : List Raw). put ds rs) (map-append raw_in old (v ∷ []))) in
      subst (λ (qs : Raws). IsTrue (fields_have (known_fields counts (fields_of fields)) qs)) values all

  pub valid_done : (i : ℕ) (values : List (Option ScalarValue)) → length fields ≤ i → AreValidSoFar counts fields i values →
      IsTrue (fields_have (known_fields counts (fields_of fields)) (raws_in values))
  valid_done i values l so =
      subst (λ (qs : Raws). IsTrue (fields_have (known_fields counts (fields_of fields)) qs)) (all_put (map raw_in values))
      (so no_raws (subst (λ (fs : List StructField). IsTrue (fields_have (known_fields counts (fields_of fs)) no_raws)) (sym (drop_all i fields l)) refl))

-- ---- the zone

count_within : (n : ℕ) → n < 2 ^ 64 → IsTrue (in_range u64 (pos n))
count_within n h = range_passes u64 (pos n) (record { from = omega (arith, ints); to = omega (arith, ints, h) })

pub zone_valid : (k : LogicalType) (n : ℕ) (lower upper nulls zone : Raw) → n < 2 ^ 64 →
    zone ≡ raw_tuple (raw_first (raw_number u64 (pos n)) (raw_first lower (raw_first upper (raw_first nulls no_raws)))) →
    IsTrue (valid (known_type false k) lower) → IsTrue (valid (known_type false k) upper) → IsTrue (valid (known_type true k) nulls) → IsTrue (valid (zone_type k) zone)
zone_valid k n lower upper nulls zone within is low high counts =
    subst (λ (r : Raw). IsTrue (valid (zone_type k) r)) (sym is)
    (both_so (in_range u64 (pos n)) (valid (known_type false k) lower && (valid (known_type false k) upper && (valid (known_type true k) nulls && true))) (count_within n within)
    (both_so (valid (known_type false k) lower) (valid (known_type false k) upper && (valid (known_type true k) nulls && true)) low
    (both_so (valid (known_type false k) upper) (valid (known_type true k) nulls && true) high
    (both_so (valid (known_type true k) nulls) true counts refl))))
