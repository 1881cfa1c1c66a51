-- The Rust types of this crate in the model.
use Rattle.std.specs.Prelude.{◌≡◌, ◌≢◌, ◌<◌, ℕ, List, Bool, Option, Some, None, codes, slice_get}
use Rattle.vortex_model.specs.LogicalType.{Nullability, non_nullable, nullable, is_nullable, u8, u16, u32, u64, i8, i16, i32, i64, f16, f32, f64}
use Rattle.vortex_dtype_ptype.specs.Numbers.{NumberKind, integral, floating}
use Rattle.vortex_dtype_ptype.specs.declared.nullability.Nullability as outer
use Rattle.vortex_dtype_ptype.specs.declared.nullability.Nullability.TheVariants as flag
use Rattle.vortex_dtype_ptype.specs.declared.ptype.PType.{PType}
use Rattle.vortex_dtype_ptype.specs.declared.ptype.PType.TheVariants as ptype
use Rattle.vortex_dtype_ptype.specs.declared.error.DTypeError.{DTypeError}
use Rattle.vortex_dtype_ptype.specs.declared.error.DTypeError.TheVariants as error

abbrev pub nullability_of_flag : outer.Nullability → Nullability
nullability_of_flag flag.NonNullable = non_nullable
nullability_of_flag flag.Nullable = nullable

abbrev pub is_nullable_flag : outer.Nullability → Bool
is_nullable_flag n = is_nullable (nullability_of_flag n)

abbrev pub number_kind_of : PType → NumberKind
number_kind_of ptype.U8 = integral u8
number_kind_of ptype.U16 = integral u16
number_kind_of ptype.U32 = integral u32
number_kind_of ptype.U64 = integral u64
number_kind_of ptype.I8 = integral i8
number_kind_of ptype.I16 = integral i16
number_kind_of ptype.I32 = integral i32
number_kind_of ptype.I64 = integral i64
number_kind_of ptype.F16 = floating f16
number_kind_of ptype.F32 = floating f32
number_kind_of ptype.F64 = floating f64

-- the lowercase name
abbrev pub name_of_ptype : PType → List ℕ
name_of_ptype ptype.U8 = codes "u8"
name_of_ptype ptype.U16 = codes "u16"
name_of_ptype ptype.U32 = codes "u32"
name_of_ptype ptype.U64 = codes "u64"
name_of_ptype ptype.I8 = codes "i8"
name_of_ptype ptype.I16 = codes "i16"
name_of_ptype ptype.I32 = codes "i32"
name_of_ptype ptype.I64 = codes "i64"
name_of_ptype ptype.F16 = codes "f16"
name_of_ptype ptype.F32 = codes "f32"
name_of_ptype ptype.F64 = codes "f64"

-- the index of the first equal name, and none where no name is equal
abbrev pub IsFirstPlace : List (List ℕ) → List ℕ → Option ℕ → Type 0
IsFirstPlace names name None = (i : ℕ) → slice_get names i ≢ Some name
IsFirstPlace names name (Some place) =
    (slice_get names place ≡ Some name) × ((i : ℕ) → i < place → slice_get names i ≢ Some name)

abbrev pub number_of_error : DTypeError → ℕ
number_of_error error.Memory = 1
number_of_error error.Width = 2
number_of_error error.Length = 3
number_of_error error.NoSuchField = 4
number_of_error error.RepeatedName = 5
number_of_error error.MapShape = 6
number_of_error error.UnionShape = 7
number_of_error error.DecimalShape = 8
number_of_error error.Malformed = 9
number_of_error error.Plugin = 10

abbrev pub name_of_error : DTypeError → List ℕ
name_of_error error.Memory = codes "Memory"
name_of_error error.Width = codes "Width"
name_of_error error.Length = codes "Length"
name_of_error error.NoSuchField = codes "NoSuchField"
name_of_error error.RepeatedName = codes "RepeatedName"
name_of_error error.MapShape = codes "MapShape"
name_of_error error.UnionShape = codes "UnionShape"
name_of_error error.DecimalShape = codes "DecimalShape"
name_of_error error.Malformed = codes "Malformed"
name_of_error error.Plugin = codes "Plugin"
