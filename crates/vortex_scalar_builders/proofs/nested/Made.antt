-- Nested scalars are valid as they are made.
use Rattle.std.proofs.Common.{◌≡◌, ◌&&◌, ℕ, ℤ, length, refl, sym, ap, ◌∙◌, true, List, [], ◌∷◌, map, Option, Vec, Global}
use Rattle.std.specs.Cmp.Derive.{both_true}
use Rattle.std.proofs.lemmas.List.{length-map}
use Rattle.std.specs.declared.rc.Rc.{Rc}
use Rattle.std.proofs.lemmas.Bool.{and_parts, eq-eqb}
use Rattle.vortex_model.specs.LogicalType.{LogicalType, Fields, no_fields, field, struct, union, extension, eq_type, has_tag, type_tagged}
use Rattle.vortex_model.specs.Content.{raw_tuple, raw_tagged, raw_count}
use Rattle.vortex_model.specs.Valid.{valid, all_have, fields_have, entries_have}
use Rattle.vortex_model.proofs.Tests.{kind_so}
use Rattle.vortex_dtype_ptype.specs.declared.nullability.Nullability as outer
use Rattle.vortex_dtype_ptype.specs.View.{nullability_of_flag}
use Rattle.vortex_dtype_core.specs.View.{type_of, extension_type, entries_in, variants_in}
use Rattle.vortex_dtype_core.specs.declared.extension.ExtDTypeRef.{ExtDTypeRef}
use Rattle.vortex_dtype_core.specs.declared.map_dtype.MapDType.{MapDType}
use Rattle.vortex_dtype_core.specs.declared.union_variants.UnionVariants.{UnionVariants}
use Rattle.vortex_scalar_value.specs.declared.union_value.UnionValue.{UnionValue}
use Rattle.vortex_dtype_core.specs.declared.dtype.DType as type
use Rattle.vortex_dtype_core.specs.declared.dtype.DType.{DType}
use Rattle.vortex_dtype_core.proofs.Views as types
use Rattle.vortex_scalar_value.specs.View.{raw_of, raw_of_union, raw_in, raws_in, raws_from}
use Rattle.vortex_scalar_value.specs.declared.scalar_value.ScalarValue as value
use Rattle.vortex_scalar_value.specs.declared.scalar_value.ScalarValue.{ScalarValue}
use Rattle.vortex_scalar_value.proofs.Views as values
use Rattle.vortex_scalar_core.specs.Scalar.{scalar_type, scalar_raw}
use Rattle.vortex_scalar_core.specs.declared.scalar.Scalar.{Scalar}
use Rattle.vortex_scalar_builders.specs.nested.Children.{all_are, are_of_fields, is_record_of, all_are_entries, is_choice}
use Rattle.vortex_scalar_builders.proofs.nested.Moves.{raw_of_entry}

-- a scalar of type k is valid for it
one_valid : (k : LogicalType) (s : Scalar) → eq_type (scalar_type s) k ≡ true → valid k (scalar_raw s) ≡ true
one_valid k s e = ap (λ l. valid l (scalar_raw s)) (sym (kind_so (scalar_type s) k e)) ∙ s.is_valid

pub all_valid : (k : LogicalType) (cs : List Scalar) → all_are k (map scalar_type cs) ≡ true → all_have k (raws_from (map scalar_raw cs)) ≡ true
all_valid k [] e = refl
all_valid k (c ∷ cs) e =
    let parts = and_parts (eq_type (scalar_type c) k) (all_are k (map scalar_type cs)) e in
    both_true (one_valid k c parts.0) (all_valid k cs parts.1)

pub list_valid : (e : Rc DType Global) (n : outer.Nullability) (v : Vec (Option ScalarValue) Global) (cs : List Scalar) → map raw_in v.items ≡ map scalar_raw cs → all_are (type_of e.value) (map scalar_type cs) ≡ true →
    valid (type_of (type.List e n)) (raw_of (value.Tuple v)) ≡ true
list_valid e n v cs same all =
    (λ i. valid (types.type_of-List e n i) (values.raw_of-Tuple v i)) ∙ ap (λ rs. all_have (type_of e.value) (raws_from rs)) same ∙ all_valid (type_of e.value) cs all

lengths : (vs : List (Option ScalarValue)) (cs : List Scalar) → map raw_in vs ≡ map scalar_raw cs → length vs ≡ length cs
lengths vs cs e = sym (length-map vs raw_in) ∙ ap length e ∙ length-map cs scalar_raw

pub fixed_list_valid : (e : Rc DType Global) (m : ℕ) (n : outer.Nullability) (v : Vec (Option ScalarValue) Global) (cs : List Scalar) → m ≡ length cs → map raw_in v.items ≡ map scalar_raw cs → all_are (type_of e.value) (map scalar_type cs) ≡ true →
    valid (type_of (type.FixedSizeList e m n)) (raw_of (value.Tuple v)) ≡ true
fixed_list_valid e m n v cs many same all =
    (λ i. valid (types.type_of-FixedSizeList e m n i) (values.raw_of-Tuple v i))
    ∙ both_true (eq-eqb (raw_count (raws_in v.items)) m (values.raw_count-raws_in v.items ∙ lengths v.items cs same ∙ sym many)) (ap (λ rs. all_have (type_of e.value) (raws_from rs)) same ∙ all_valid (type_of e.value) cs all)

pub ruleset lists = (types.one_level, values.one_level, list_valid)

pub ruleset fixed_lists = (types.one_level, values.one_level, fixed_list_valid)

-- ---- structs

fields_valid : (fs : Fields) (cs : List Scalar) → are_of_fields fs (map scalar_type cs) ≡ true → fields_have fs (raws_from (map scalar_raw cs)) ≡ true
fields_valid no_fields [] e = refl
fields_valid no_fields (c ∷ cs) e = absurd (cc e)
fields_valid (field x k fs) [] e = absurd (cc e)
fields_valid (field x k fs) (c ∷ cs) e =
    let parts = and_parts (eq_type (scalar_type c) k) (are_of_fields fs (map scalar_type cs)) e in
    both_true (one_valid k c parts.0) (fields_valid fs cs parts.1)

kind_has_record : (k : LogicalType) (cs : List Scalar) → is_record_of k (map scalar_type cs) ≡ true → valid k (raw_tuple (raws_from (map scalar_raw cs))) ≡ true
kind_has_record (struct fs n) cs e = fields_valid fs cs e
kind_has_record k cs e = absurd (cc e)

pub record_valid : (k : LogicalType) (v : Vec (Option ScalarValue) Global) (cs : List Scalar) → map raw_in v.items ≡ map scalar_raw cs → is_record_of k (map scalar_type cs) ≡ true → valid k (raw_of (value.Tuple v)) ≡ true
record_valid k v cs same e = ap (valid k) (values.raw_of-Tuple v) ∙ ap (λ rs. valid k (raw_tuple (raws_from rs))) same ∙ kind_has_record k cs e

pub ruleset records = (values.one_level, record_valid)

pub ruleset unchecked = (values.one_level)

-- ---- maps

entries_valid : (k w : LogicalType) (es : List (Scalar × Scalar)) → all_are_entries k w (map (λ e. (scalar_type e.0, scalar_type e.1)) es) ≡ true → entries_have k w (raws_from (map raw_of_entry es)) ≡ true
entries_valid k w [] h = refl
entries_valid k w (e ∷ es) h =
    let parts = and_parts (eq_type (scalar_type e.0) k && eq_type (scalar_type e.1) w) (all_are_entries k w (map (λ p. (scalar_type p.0, scalar_type p.1)) es)) h in
    let pair = and_parts (eq_type (scalar_type e.0) k) (eq_type (scalar_type e.1) w) parts.0 in
    both_true (both_true (one_valid k e.0 pair.0) (one_valid w e.1 pair.1)) (entries_valid k w es parts.1)

pub map_valid : (m : MapDType) (n : outer.Nullability) (v : Vec (Option ScalarValue) Global) (es : List (Scalar × Scalar)) → map raw_in v.items ≡ map raw_of_entry es →
    all_are_entries (entries_in m).key (entries_in m).value (map (λ e. (scalar_type e.0, scalar_type e.1)) es) ≡ true → valid (type_of (type.Map m n)) (raw_of (value.Tuple v)) ≡ true
map_valid m n v es same h =
    (λ i. valid (types.type_of-Map m n i) (values.raw_of-Tuple v i)) ∙ ap (λ rs. entries_have (entries_in m).key (entries_in m).value (raws_from rs)) same
    ∙ entries_valid (entries_in m).key (entries_in m).value es h

pub ruleset maps = (types.one_level, values.one_level, map_valid)

-- ---- unions

pub union_valid : (u : UnionVariants) (n : outer.Nullability) (v : UnionValue) (t : ℤ) (c : Scalar) → raw_of_union v ≡ raw_tagged t (scalar_raw c) → is_choice (variants_in u) t (scalar_type c) ≡ true →
    valid (type_of (type.Union u n)) (raw_of (value.Union v)) ≡ true
union_valid u n v t c same h =
    let parts = and_parts (has_tag (variants_in u) t) (eq_type (scalar_type c) (type_tagged (variants_in u) t)) h in
    (λ i. valid (types.type_of-Union u n i) (values.raw_of-Union v i)) ∙ ap (valid (union (variants_in u) (nullability_of_flag n))) same
    ∙ both_true parts.0 (one_valid (type_tagged (variants_in u) t) c parts.1)

pub ruleset unions = (types.one_level, values.one_level, union_valid)

-- ---- extensions

pub extension_valid : (x : ExtDTypeRef) (id meta : List ℕ) (s : Scalar) (v : Option ScalarValue) → extension_type x ≡ extension id meta (scalar_type s) → raw_in v ≡ scalar_raw s → valid (type_of (type.Extension x)) (raw_in v) ≡ true
extension_valid x id meta s v e same =
    ap (λ k. valid k (raw_in v)) (types.type_of-Extension x ∙ e) ∙ ap (valid (scalar_type s)) same ∙ s.is_valid

pub ruleset extensions = (types.type_of-Extension, extension_valid)
