-- The parts of a type.
use Rattle.std.specs.Prelude.{ℕ, ℤ, zero, suc, List, [], ◌∷◌, Option, Some, None, Bool, true, false, not, ◌&&◌, ◌==◌, length}
use Rattle.std.specs.List.{list_any}
use Rattle.std.specs.Ordering.{int_eq}
use Rattle.std.specs.Option.{is_some}
use Rattle.vortex_model.specs.LogicalType.{LogicalType, null_only, boolean_type, integer_type, float, decimal, utf8, binary, list, fixed_list, mapping, struct, union, variant, extension, Fields, no_fields, field, Variants, no_variants, choice}
use Rattle.vortex_dtype_ptype.specs.Numbers.{NumberKind, integral, floating}
use Rattle.vortex_dtype_core.specs.View.{EntryTypes}

-- a non-nullable form of the type exists
abbrev pub can_be_nonnullable : LogicalType → Bool
can_be_nonnullable null_only = false
can_be_nonnullable (extension id meta k) = can_be_nonnullable k
can_be_nonnullable k = true

-- the id, the metadata and the storage of an extension
abbrev pub id_of : LogicalType → List ℕ
id_of (extension id meta k) = id
id_of k = []

abbrev pub metadata_of : LogicalType → List ℕ
metadata_of (extension id meta k) = meta
metadata_of k = []

abbrev pub storage_of : LogicalType → LogicalType
storage_of (extension id meta k) = k
storage_of k = k

-- the number of fields
abbrev pub field_count : Fields → ℕ
field_count no_fields = 0
field_count (field x k fs) = suc (field_count fs)

abbrev pub name_at : Fields → ℕ → Option (List ℕ)
name_at no_fields i = None
name_at (field x k fs) zero = Some x
name_at (field x k fs) (suc i) = name_at fs i

-- the number of variants
abbrev pub variant_count : Variants → ℕ
variant_count no_variants = 0
variant_count (choice x t k vs) = suc (variant_count vs)

-- no tag occurs twice
abbrev pub is_distinct : List ℤ → Bool
is_distinct [] = true
is_distinct (t ∷ ts) = not (list_any (λ u. int_eq u t) ts) && is_distinct ts

-- as many names, types and tags, and no tag twice
abbrev pub is_union_shape : ℕ → ℕ → List ℤ → Bool
is_union_shape names types tags = (names == types) && (length tags == types) && is_distinct tags

abbrev pub is_boolean_type : LogicalType → Bool
is_boolean_type (boolean_type n) = true
is_boolean_type k = false

abbrev pub is_utf8_type : LogicalType → Bool
is_utf8_type (utf8 n) = true
is_utf8_type k = false

abbrev pub is_binary_type : LogicalType → Bool
is_binary_type (binary n) = true
is_binary_type k = false

abbrev pub is_variant_type : LogicalType → Bool
is_variant_type (variant n) = true
is_variant_type k = false

abbrev pub is_integer_type : LogicalType → Bool
is_integer_type (integer_type i n) = true
is_integer_type k = false

abbrev pub is_float_type : LogicalType → Bool
is_float_type (float f n) = true
is_float_type k = false

-- its primitive type
abbrev pub numbers_in_type : LogicalType → Option NumberKind
numbers_in_type (integer_type i n) = Some (integral i)
numbers_in_type (float f n) = Some (floating f)
numbers_in_type k = None

-- its precision and scale
abbrev pub decimal_in_type : LogicalType → Option (ℕ × ℤ)
decimal_in_type (decimal p s n) = Some (p, s)
decimal_in_type k = None

-- its element type
abbrev pub element_in_type : LogicalType → Option LogicalType
element_in_type (list k n) = Some k
element_in_type k = None

abbrev pub fixed_element_in_type : LogicalType → Option LogicalType
fixed_element_in_type (fixed_list k m n) = Some k
fixed_element_in_type k = None

-- the element type of a list of any length or of one
abbrev pub list_element : LogicalType → Option LogicalType
list_element (list k n) = Some k
list_element (fixed_list k m n) = Some k
list_element k = None

abbrev pub entries_in_type : LogicalType → Option EntryTypes
entries_in_type (mapping k v s n) = Some (record { key = k; value = v; sorted = s })
entries_in_type k = None

abbrev pub fields_in_type : LogicalType → Option Fields
fields_in_type (struct fs n) = Some fs
fields_in_type k = None

abbrev pub variants_in_type : LogicalType → Option Variants
variants_in_type (union vs n) = Some vs
variants_in_type k = None

abbrev pub extension_in_type : LogicalType → Option LogicalType
extension_in_type (extension id meta k) = Some (extension id meta k)
extension_in_type k = None

abbrev pub is_primitive_type : LogicalType → Bool
is_primitive_type k = is_some (numbers_in_type k)

abbrev pub is_decimal_type : LogicalType → Bool
is_decimal_type k = is_some (decimal_in_type k)

abbrev pub is_list_type : LogicalType → Bool
is_list_type k = is_some (element_in_type k)

abbrev pub is_fixed_list_type : LogicalType → Bool
is_fixed_list_type k = is_some (fixed_element_in_type k)

abbrev pub is_map_type : LogicalType → Bool
is_map_type k = is_some (entries_in_type k)

abbrev pub is_struct_type : LogicalType → Bool
is_struct_type k = is_some (fields_in_type k)

abbrev pub is_union_type : LogicalType → Bool
is_union_type k = is_some (variants_in_type k)

abbrev pub is_extension_type : LogicalType → Bool
is_extension_type k = is_some (extension_in_type k)
