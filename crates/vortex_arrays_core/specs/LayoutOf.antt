-- The layout of an array, and of its children.
use Rattle.std.specs.Prelude.{◌≡◌, ℤ, length, Option, Some, None, Bool as Truth, true, false}
use Rattle.vortex_model.specs.Content.{Content, null, integer}
use Rattle.vortex_arrays_model.specs.Layout.{Layout, Strings, texts, byte_strings, bools, numbers, strings, constant, dictionary, fixed_lists, list_views, records, Valid, required, all_valid, all_null, by_array}
use Rattle.vortex_arrays_model.specs.Parts.{columns_of}
use Rattle.vortex_arrays_buffer.specs.PrimitiveBuffers.{kind_of_numbers, integers_of}
use Rattle.vortex_scalar_core.specs.Scalar.{scalar_type, scalar_raw}
use Rattle.vortex_arrays_core.specs.declared.array.ArrayLayout.{ArrayLayout}
use Rattle.vortex_arrays_core.specs.declared.array.ArrayLayout.TheVariants.{Bool, Primitive, VarBinView, Constant, Dict, FixedSizeList, ListView, Struct}
use Rattle.vortex_arrays_core.specs.declared.array.StringKind.{StringKind}
use Rattle.vortex_arrays_core.specs.declared.array.StringKind.TheVariants.{Utf8, Binary}
use Rattle.vortex_arrays_core.specs.declared.array.Validity.{Validity}
use Rattle.vortex_arrays_core.specs.declared.array.Validity.TheVariants.{NonNullable, AllValid, AllInvalid, Array}

abbrev pub valid_of : Validity → Valid
valid_of NonNullable = required
valid_of AllValid = all_valid
valid_of AllInvalid = all_null
valid_of (Array a) = by_array a

-- the validity has packed bits without null
abbrev pub is_packed : Valid → Truth
is_packed (by_array (bools bs required)) = true
is_packed v = false

abbrev pub strings_of : StringKind → Strings
strings_of Utf8 = texts
strings_of Binary = byte_strings

abbrev pub layout_of : ArrayLayout → Layout
layout_of (Bool bits v) = bools bits (valid_of v)
layout_of (Primitive ns v) = numbers (kind_of_numbers ns) (integers_of ns) (valid_of v)
layout_of (VarBinView s views buffers v) =
    strings (strings_of s) views buffers.value.items (valid_of v)
layout_of (Constant s n) = constant (scalar_type s) (scalar_raw s) n
layout_of (Dict c v f) = dictionary c v f
layout_of (FixedSizeList e s n v) = fixed_lists e s n (valid_of v)
layout_of (ListView e o s f v) = list_views e o s f (valid_of v)
layout_of (Struct names fields n v) = records (columns_of names.value fields.items) n (valid_of v)

-- a struct array has one name for each field
abbrev pub NamesItsFields : ArrayLayout → Type 0
NamesItsFields (Struct names fields n v) = length names.value ≡ length fields.items
NamesItsFields a = Unit {0}

-- an integer, and null for none
abbrev pub integer_content : Option ℤ → Content
integer_content None = null
integer_content (Some z) = integer z
