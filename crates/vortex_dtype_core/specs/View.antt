-- The types of this crate in the model.
use Rattle.std.specs.Prelude.{ℕ, ℤ, List, [], ◌∷◌, map, Bool}
use Rattle.std.specs.Borrow.{Bor}
use Rattle.vortex_model.specs.LogicalType.{non_nullable, LogicalType, null_only, boolean_type, decimal, utf8, binary, list, fixed_list, mapping, struct, union, variant, extension, Fields, no_fields, field, Variants, no_variants, choice, eq_type, eq_fields, eq_variants}
use Rattle.vortex_dtype_ptype.specs.Numbers.{type_of_numbers}
use Rattle.vortex_dtype_ptype.specs.View.{nullability_of_flag, number_kind_of}
use Rattle.vortex_dtype_core.specs.declared.dtype.DType.{DType, fold-DType}
use Rattle.vortex_dtype_core.specs.declared.dtype.DType.TheOpen.{DType-F, ExtDTypeData-F, ExtDTypeRef-F, MapDType-F, MapEntries-F, StructField-F, StructFields-F, UnionVariant-F, UnionVariants-F}
use Rattle.vortex_dtype_core.specs.declared.extension.ExtDTypeRef.{ExtDTypeRef, fold-ExtDTypeRef}
use Rattle.vortex_dtype_core.specs.declared.map_dtype.MapDType.{MapDType, fold-MapDType}
use Rattle.vortex_dtype_core.specs.declared.map_dtype.MapEntries.{MapEntries, fold-MapEntries}
use Rattle.vortex_dtype_core.specs.declared.struct_fields.StructFields.{StructFields, fold-StructFields, out-StructFields}
use Rattle.vortex_dtype_core.specs.declared.struct_fields.StructField.{StructField, fold-StructField}
use Rattle.vortex_dtype_core.specs.declared.union_variants.UnionVariants.{UnionVariants, fold-UnionVariants, out-UnionVariants}
use Rattle.vortex_dtype_core.specs.declared.union_variants.UnionVariant.{UnionVariant, fold-UnionVariant}

-- a name and a type
abbrev pub NamedType : Type 0
NamedType = List ℕ × LogicalType

-- a name, a tag and a type
abbrev pub TaggedType : Type 0
TaggedType = List ℕ × (ℤ × LogicalType)

-- the types of a map's entries, and whether keys are sorted
pub record EntryTypes : Type 0 where
  pub key : LogicalType
  pub value : LogicalType
  pub sorted : Bool

abbrev pub fields_from : List NamedType → Fields
fields_from [] = no_fields
fields_from (f ∷ fs) = field f.0 f.1 (fields_from fs)

abbrev pub variants_from : List TaggedType → Variants
variants_from [] = no_variants
variants_from (v ∷ vs) = choice v.0 v.1.0 v.1.1 (variants_from vs)

-- one level of the type, where the types inside are in the model
abbrev pub type_step : DType-F LogicalType LogicalType LogicalType EntryTypes EntryTypes NamedType
    Fields TaggedType Variants → LogicalType
type_step DType-F.Null = null_only
type_step (DType-F.Bool n) = boolean_type (nullability_of_flag n)
type_step (DType-F.Primitive p n) = type_of_numbers (number_kind_of p) (nullability_of_flag n)
type_step (DType-F.Decimal d n) = decimal d.precision d.scale (nullability_of_flag n)
type_step (DType-F.Utf8 n) = utf8 (nullability_of_flag n)
type_step (DType-F.Binary n) = binary (nullability_of_flag n)
type_step (DType-F.List e n) = list e.value (nullability_of_flag n)
type_step (DType-F.FixedSizeList e size n) = fixed_list e.value size (nullability_of_flag n)
type_step (DType-F.Map m n) = mapping m.key m.value m.sorted (nullability_of_flag n)
type_step (DType-F.Struct fs n) = struct fs (nullability_of_flag n)
type_step (DType-F.Union vs n) = union vs (nullability_of_flag n)
type_step (DType-F.Variant n) = variant (nullability_of_flag n)
type_step (DType-F.Extension k) = k

abbrev pub data_step : ExtDTypeData-F LogicalType LogicalType LogicalType EntryTypes EntryTypes
    NamedType Fields TaggedType Variants → LogicalType
data_step e = extension e.id e.metadata e.storage

abbrev pub extension_step : ExtDTypeRef-F LogicalType LogicalType LogicalType EntryTypes EntryTypes
    NamedType Fields TaggedType Variants → LogicalType
extension_step x = x.data.value

abbrev pub map_step : MapDType-F LogicalType LogicalType LogicalType EntryTypes EntryTypes NamedType
    Fields TaggedType Variants → EntryTypes
map_step m = m.entries.value

abbrev pub entries_step : MapEntries-F LogicalType LogicalType LogicalType EntryTypes EntryTypes
    NamedType Fields TaggedType Variants → EntryTypes
entries_step e = record { key = e.key; value = e.value; sorted = e.keys_sorted }

abbrev pub field_step : StructField-F LogicalType LogicalType LogicalType EntryTypes EntryTypes
    NamedType Fields TaggedType Variants → NamedType
field_step f = (f.name, f.dtype)

abbrev pub fields_step : StructFields-F LogicalType LogicalType LogicalType EntryTypes EntryTypes
    NamedType Fields TaggedType Variants → Fields
fields_step s = fields_from s.fields.value.items

abbrev pub variant_step : UnionVariant-F LogicalType LogicalType LogicalType EntryTypes EntryTypes
    NamedType Fields TaggedType Variants → TaggedType
variant_step v = (v.name, (v.tag, v.dtype))

abbrev pub variants_step : UnionVariants-F LogicalType LogicalType LogicalType EntryTypes EntryTypes
    NamedType Fields TaggedType Variants → Variants
variants_step u = variants_from u.variants.value.items

-- a `DType` in the model
abbrev pub type_of : DType → LogicalType
type_of = fold-DType LogicalType LogicalType LogicalType EntryTypes EntryTypes NamedType Fields
    TaggedType Variants type_step data_step extension_step map_step entries_step field_step
    fields_step variant_step variants_step

-- an `ExtDTypeRef` in the model
abbrev pub extension_type : ExtDTypeRef → LogicalType
extension_type = fold-ExtDTypeRef LogicalType LogicalType LogicalType EntryTypes EntryTypes
    NamedType Fields TaggedType Variants type_step data_step extension_step map_step entries_step
    field_step fields_step variant_step variants_step

-- a `MapDType` in the model
abbrev pub entries_in : MapDType → EntryTypes
entries_in = fold-MapDType LogicalType LogicalType LogicalType EntryTypes EntryTypes NamedType
    Fields TaggedType Variants type_step data_step extension_step map_step entries_step field_step
    fields_step variant_step variants_step

abbrev pub entries_of : MapEntries → EntryTypes
entries_of = fold-MapEntries LogicalType LogicalType LogicalType EntryTypes EntryTypes NamedType
    Fields TaggedType Variants type_step data_step extension_step map_step entries_step field_step
    fields_step variant_step variants_step

-- `StructFields` in the model
abbrev pub fields_in : StructFields → Fields
fields_in = fold-StructFields LogicalType LogicalType LogicalType EntryTypes EntryTypes NamedType
    Fields TaggedType Variants type_step data_step extension_step map_step entries_step field_step
    fields_step variant_step variants_step

abbrev pub field_of : StructField → NamedType
field_of = fold-StructField LogicalType LogicalType LogicalType EntryTypes EntryTypes NamedType
    Fields TaggedType Variants type_step data_step extension_step map_step entries_step field_step
    fields_step variant_step variants_step

abbrev pub fields_of : List StructField → Fields
fields_of fs = fields_from (map field_of fs)

-- a pair of a name and a `DType` in the model
abbrev pub named_type : Bor (List ℕ) × DType → NamedType
named_type p = (p.0.now, type_of p.1)

-- `UnionVariants` in the model
abbrev pub variants_in : UnionVariants → Variants
variants_in = fold-UnionVariants LogicalType LogicalType LogicalType EntryTypes EntryTypes NamedType
    Fields TaggedType Variants type_step data_step extension_step map_step entries_step field_step
    fields_step variant_step variants_step

abbrev pub variant_of : UnionVariant → TaggedType
variant_of = fold-UnionVariant LogicalType LogicalType LogicalType EntryTypes EntryTypes NamedType
    Fields TaggedType Variants type_step data_step extension_step map_step entries_step field_step
    fields_step variant_step variants_step

abbrev pub variants_of : List UnionVariant → Variants
variants_of vs = variants_from (map variant_of vs)

-- the types are equal
abbrev pub eq_dtype : DType → DType → Bool
eq_dtype s t = eq_type (type_of s) (type_of t)

abbrev pub eq_struct_fields : StructFields → StructFields → Bool
eq_struct_fields s t = eq_fields (fields_in s) (fields_in t)

abbrev pub eq_union_variants : UnionVariants → UnionVariants → Bool
eq_union_variants u v = eq_variants (variants_in u) (variants_in v)

-- the type of maps with these entries
abbrev pub map_type_of : MapDType → LogicalType
map_type_of m = mapping (entries_in m).key (entries_in m).value (entries_in m).sorted non_nullable

abbrev pub eq_map : MapDType → MapDType → Bool
eq_map m l = eq_type (map_type_of m) (map_type_of l)

abbrev pub eq_extension : ExtDTypeRef → ExtDTypeRef → Bool
eq_extension x y = eq_type (extension_type x) (extension_type y)

-- the items of `StructFields`
abbrev pub items_of : StructFields → List StructField
items_of s = (out-StructFields s).fields.value.items

-- the items of `UnionVariants`
abbrev pub variant_items_of : UnionVariants → List UnionVariant
variant_items_of u = (out-UnionVariants u).variants.value.items
