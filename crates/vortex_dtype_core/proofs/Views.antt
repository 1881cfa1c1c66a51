-- One level of a type, and the rest of a list of parts.
use Rattle.std.proofs.Common.{◌≡◌, ◌<◌, ◌≤◌, get_or, ◌+◌, true, false, if◌then◌else◌, Option, Some, None, option_map, slice_get, ℕ, zero, suc, add-one, List, [], ◌∷◌, length, refl, sym, ap, ◌∙◌, rules}
use Rattle.std.proofs.lemmas.Option.{slice_get_read, slice_get_past}
use Rattle.std.specs.Str.{bytes_eq}
use Rattle.std.specs.declared.rc.Rc.{Rc}
use Rattle.std.specs.declared.alloc.Global.{Global}
use Rattle.vortex_model.specs.LogicalType.{LogicalType, null_only, integer_type, float, decimal, boolean_type, utf8, binary, variant, list, fixed_list, mapping, struct, union, extension, nullability_of, either_nullable, with_nullability, non_nullable, nullable, Nullability, Fields, no_fields, field}
use Rattle.vortex_model.specs.Path.{position_named, field_at}
use Rattle.vortex_dtype_ptype.specs.Numbers.{NumberKind, integral, floating, type_of_numbers}
use Rattle.vortex_dtype_ptype.specs.View.{nullability_of_flag, number_kind_of}
use Rattle.vortex_dtype_ptype.specs.declared.nullability.Nullability as outer
use Rattle.vortex_dtype_ptype.specs.declared.ptype.PType.{PType}
use Rattle.vortex_dtype_core.specs.Parts.{field_count, variant_count, name_at, can_be_nonnullable}
use Rattle.vortex_dtype_core.specs.View.{type_of, extension_type, entries_in, entries_of, field_of, fields_in, fields_of, items_of, variant_of, variants_in, variants_of, variant_items_of}
use Rattle.vortex_dtype_core.specs.declared.dtype.DType as type
use Rattle.vortex_dtype_core.specs.declared.dtype.DType.{DType}
use Rattle.vortex_dtype_core.specs.declared.extension.ExtDTypeData as ext_data
use Rattle.vortex_dtype_core.specs.declared.extension.ExtDTypeRef as ext
use Rattle.vortex_dtype_core.specs.declared.extension.ExtDTypeRef.{ExtDTypeRef}
use Rattle.vortex_dtype_core.specs.declared.map_dtype.MapDType as map_type
use Rattle.vortex_dtype_core.specs.declared.map_dtype.MapDType.{MapDType}
use Rattle.vortex_dtype_core.specs.declared.map_dtype.MapEntries as entries
use Rattle.vortex_dtype_core.specs.declared.map_dtype.MapEntries.{MapEntries}
use Rattle.vortex_dtype_core.specs.declared.struct_fields.StructFields as fields
use Rattle.vortex_dtype_core.specs.declared.struct_fields.StructFields.{StructFields}
use Rattle.vortex_dtype_core.specs.declared.struct_fields.StructField as part
use Rattle.vortex_dtype_core.specs.declared.struct_fields.StructField.{StructField}
use Rattle.vortex_dtype_core.specs.declared.union_variants.UnionVariants as variants
use Rattle.vortex_dtype_core.specs.declared.union_variants.UnionVariants.{UnionVariants}
use Rattle.vortex_dtype_core.specs.declared.union_variants.UnionVariant as choice_part
use Rattle.vortex_dtype_core.specs.declared.union_variants.UnionVariant.{UnionVariant}

-- ---- one level

pub type_of-Primitive : (p : PType) (n : outer.Nullability) → type_of (type.Primitive p n) ≡ type_of_numbers (number_kind_of p) (nullability_of_flag n)
type_of-Primitive p n = search (rules, type.the_lemmas)

pub type_of-List : (e : Rc DType Global) (n : outer.Nullability) → type_of (type.List e n) ≡ list (type_of e.value) (nullability_of_flag n)
type_of-List e n = search (rules, type.the_lemmas)

pub type_of-FixedSizeList : (e : Rc DType Global) (m : ℕ) (n : outer.Nullability) → type_of (type.FixedSizeList e m n) ≡ fixed_list (type_of e.value) m (nullability_of_flag n)
type_of-FixedSizeList e m n = search (rules, type.the_lemmas)

pub type_of-Map : (m : MapDType) (n : outer.Nullability) → type_of (type.Map m n) ≡ mapping (entries_in m).key (entries_in m).value (entries_in m).sorted (nullability_of_flag n)
type_of-Map m n = search (rules, type.the_lemmas)

pub type_of-Struct : (s : StructFields) (n : outer.Nullability) → type_of (type.Struct s n) ≡ struct (fields_in s) (nullability_of_flag n)
type_of-Struct s n = search (rules, type.the_lemmas)

pub type_of-Union : (u : UnionVariants) (n : outer.Nullability) → type_of (type.Union u n) ≡ union (variants_in u) (nullability_of_flag n)
type_of-Union u n = search (rules, type.the_lemmas)

pub type_of-Extension : (x : ExtDTypeRef) → type_of (type.Extension x) ≡ extension_type x
type_of-Extension x = search (rules, type.the_lemmas)

pub extension_type-parts : (x : ExtDTypeRef) → extension_type x ≡ extension (ext.out-ExtDTypeRef x).data.value.id (ext.out-ExtDTypeRef x).data.value.metadata (type_of (ext.out-ExtDTypeRef x).data.value.storage)
extension_type-parts x = search (rules, ext.the_lemmas, ext_data.the_lemmas)

pub entries_in-parts : (m : MapDType) → entries_in m ≡ entries_of (map_type.out-MapDType m).entries.value
entries_in-parts m = search (rules, map_type.the_lemmas)

pub entries_of-parts : (e : MapEntries) → entries_of e ≡ record { key = type_of e.key; value = type_of e.value; sorted = e.keys_sorted }
entries_of-parts e = search (rules, entries.the_lemmas)

pub fields_in-items_of : (s : StructFields) → fields_in s ≡ fields_of (items_of s)
fields_in-items_of s = search (rules, fields.the_lemmas)

pub field_of-parts : (f : StructField) → field_of f ≡ (f.name, type_of f.dtype)
field_of-parts f = search (rules, part.the_lemmas)

pub variants_in-items_of : (u : UnionVariants) → variants_in u ≡ variants_of (variant_items_of u)
variants_in-items_of u = search (rules, variants.the_lemmas)

pub variant_of-parts : (v : UnionVariant) → variant_of v ≡ (v.name, (v.tag, type_of v.dtype))
variant_of-parts v = search (rules, choice_part.the_lemmas)

pub field_count-fields_of : (fs : List StructField) → field_count (fields_of fs) ≡ length fs
field_count-fields_of [] = refl
field_count-fields_of (f ∷ fs) = ap suc (field_count-fields_of fs)

pub variant_count-variants_of : (vs : List UnionVariant) → variant_count (variants_of vs) ≡ length vs
variant_count-variants_of [] = refl
variant_count-variants_of (v ∷ vs) = ap suc (variant_count-variants_of vs)

pub ruleset one_level = (type_of-Primitive, type_of-List, type_of-FixedSizeList, type_of-Map, type_of-Struct, type_of-Union, type_of-Extension, fields_in-items_of, variants_in-items_of, field_count-fields_of, variant_count-variants_of)

pub ruleset built = (one_level, field_of-parts, variant_of-parts)

-- ---- nullability

pub numbers_nullability : (k : NumberKind) (n m : Nullability) → with_nullability n (type_of_numbers k m) ≡ type_of_numbers k n
numbers_nullability (integral i) n m = refl
numbers_nullability (floating f) n m = refl

-- the type has the nullability that it was given
pub nullability_of-with_nullability : (n : Nullability) (k : LogicalType) → (n ≡ non_nullable → can_be_nonnullable k ≡ true) → nullability_of (with_nullability n k) ≡ n
nullability_of-with_nullability nullable null_only h = refl
nullability_of-with_nullability non_nullable null_only h = absurd (cc (h refl))
nullability_of-with_nullability n (boolean_type m) h = refl
nullability_of-with_nullability n (integer_type i m) h = refl
nullability_of-with_nullability n (float f m) h = refl
nullability_of-with_nullability n (decimal p s m) h = refl
nullability_of-with_nullability n (utf8 m) h = refl
nullability_of-with_nullability n (binary m) h = refl
nullability_of-with_nullability n (list k m) h = refl
nullability_of-with_nullability n (fixed_list k j m) h = refl
nullability_of-with_nullability n (mapping k v s m) h = refl
nullability_of-with_nullability n (struct fs m) h = refl
nullability_of-with_nullability n (union vs m) h = refl
nullability_of-with_nullability n (variant m) h = refl
nullability_of-with_nullability n (extension id meta k) h = nullability_of-with_nullability n k h

has_without_null : (k : LogicalType) → nullability_of k ≡ non_nullable → can_be_nonnullable k ≡ true
has_without_null null_only h = absurd (cc (h))
has_without_null (extension id meta k) h = has_without_null k h
has_without_null k h = refl

pub union_can_be : (k : LogicalType) (n : Nullability) → either_nullable (nullability_of k) n ≡ non_nullable → can_be_nonnullable k ≡ true
union_can_be k n h = by_test (nullability_of k) refl h
  where
    by_test : (m : Nullability) → nullability_of k ≡ m → either_nullable m n ≡ non_nullable → can_be_nonnullable k ≡ true
    by_test nullable e h = absurd (cc (h))
    by_test non_nullable e h = has_without_null k e

pub ruleset nullabilities = (one_level, numbers_nullability, nullability_of-with_nullability)

-- ---- indexes

pub name_at-fields_of : (fs : List StructField) (i : ℕ) → name_at (fields_of fs) i ≡ option_map (λ f. f.name) (slice_get fs i)
name_at-fields_of [] i = refl
name_at-fields_of (f ∷ fs) zero = ap (λ p. Some p.0) (field_of-parts f)
name_at-fields_of (f ∷ fs) (suc i) = name_at-fields_of fs i

pub field_at-fields_of : (fs : List StructField) (i : ℕ) → field_at (fields_of fs) i ≡ option_map (λ f. type_of f.dtype) (slice_get fs i)
field_at-fields_of [] i = refl
field_at-fields_of (f ∷ fs) zero = ap (λ p. Some p.1) (field_of-parts f)
field_at-fields_of (f ∷ fs) (suc i) = field_at-fields_of fs i

pub name_at-within : (fs : List StructField) (i : ℕ) (f : StructField) → i < length fs → f ≡ get_or fs i f → Some f.name ≡ name_at (fields_of fs) i
name_at-within fs i f h e = sym (name_at-fields_of fs i ∙ ap (λ o. option_map (λ g. g.name) o) (slice_get_read fs (length fs) i f refl h e))

pub name_at-past : (fs : List StructField) (i : ℕ) → length fs ≤ i → None ≡ name_at (fields_of fs) i
name_at-past fs i h = sym (name_at-fields_of fs i ∙ ap (λ o. option_map (λ g. g.name) o) (slice_get_past fs i h))

pub field_at-within : (fs : List StructField) (i : ℕ) (f : StructField) → i < length fs → f ≡ get_or fs i f → Some (type_of f.dtype) ≡ field_at (fields_of fs) i
field_at-within fs i f h e = sym (field_at-fields_of fs i ∙ ap (λ o. option_map (λ g. type_of g.dtype) o) (slice_get_read fs (length fs) i f refl h e))

pub field_at-past : (fs : List StructField) (i : ℕ) → length fs ≤ i → None ≡ field_at (fields_of fs) i
field_at-past fs i h = sym (field_at-fields_of fs i ∙ ap (λ o. option_map (λ g. type_of g.dtype) o) (slice_get_past fs i h))

-- the index of the first field with this name, counted from n
abbrev pub position_from : ℕ → Fields → List ℕ → Option ℕ
position_from n no_fields x = None
position_from n (field y k fs) x = if bytes_eq y x then Some n else position_from (n + 1) fs x

position_from-moved : (n : ℕ) (fs : Fields) (x : List ℕ) → position_from (n + 1) fs x ≡ option_map suc (position_from n fs x)
position_from-moved n no_fields x = refl
position_from-moved n (field y k fs) x =
    elim (bytes_eq y x) as (λ b. (if b then Some (n + 1) else position_from (n + 1 + 1) fs x) ≡ option_map suc (if b then Some n else position_from (n + 1) fs x)) [
      | true ↦ ap (λ m. Some m) (add-one n)
      | false ↦ position_from-moved (n + 1) fs x
    ]

pub position_from-zero : (fs : Fields) (x : List ℕ) → position_from 0 fs x ≡ position_named fs x
position_from-zero no_fields x = refl
position_from-zero (field y k fs) x =
    elim (bytes_eq y x) as (λ b. (if b then Some 0 else position_from 1 fs x) ≡ (if b then Some 0 else option_map suc (position_named fs x))) [
      | true ↦ refl
      | false ↦ position_from-moved 0 fs x ∙ ap (λ o. option_map suc o) (position_from-zero fs x)
    ]

pub ruleset at_places = (one_level, name_at-within, name_at-past, field_at-within, field_at-past, position_from-zero)
