-- Integers of the eight types in the model, and the integers that a primitive type holds. A float
-- type holds none.
use Rattle.std.specs.Prelude.{◌≡◌, ℕ, ℤ, pos, List, Bool, false, ◌&&◌, Result, is_ok, IfOk, IfErr}
use Rattle.vortex_model.specs.LogicalType.{IntKind, eq_int_kind, u8, u16, u32, u64, i8, i16, i32, i64}
use Rattle.vortex_model.specs.Content.{Raw, raw_number}
use Rattle.vortex_model.specs.Valid.{in_range, least_number, greatest_number}
use Rattle.vortex_dtype_ptype.specs.Numbers.{NumberKind, integral, floating, reach_of}
use Rattle.vortex_dtype_native.specs.NativeBytes.{AreBytesOf}
use Rattle.vortex_scalar_value.specs.declared.pvalue.PValue.{PValue}
use Rattle.vortex_scalar_value.specs.declared.pvalue.PValue.TheVariants as number
use Rattle.vortex_scalar_value.specs.declared.error.ScalarError.{ScalarError}
use Rattle.vortex_scalar_value.specs.declared.error.ScalarError.TheVariants.{Invalid}

abbrev pub kind_of_number : PValue → IntKind
kind_of_number (number.U8 n) = u8
kind_of_number (number.U16 n) = u16
kind_of_number (number.U32 n) = u32
kind_of_number (number.U64 n) = u64
kind_of_number (number.I8 n) = i8
kind_of_number (number.I16 n) = i16
kind_of_number (number.I32 n) = i32
kind_of_number (number.I64 n) = i64

abbrev pub integer_of : PValue → ℤ
integer_of (number.U8 n) = pos n
integer_of (number.U16 n) = pos n
integer_of (number.U32 n) = pos n
integer_of (number.U64 n) = pos n
integer_of (number.I8 n) = n
integer_of (number.I16 n) = n
integer_of (number.I32 n) = n
integer_of (number.I64 n) = n

abbrev pub raw_of_number : PValue → Raw
raw_of_number v = raw_number (kind_of_number v) (integer_of v)

-- the primitive type holds z
abbrev pub holds_number : NumberKind → ℤ → Bool
holds_number (integral i) z = in_range i z
holds_number (floating f) z = false

-- an integer of type j is one of the primitive type
abbrev pub is_number_of : NumberKind → IntKind → ℤ → Bool
is_number_of (integral i) j z = eq_int_kind j i && in_range i z
is_number_of (floating f) j z = false

-- the primitive type is j
abbrev pub is_kind : NumberKind → IntKind → Bool
is_kind (integral i) j = eq_int_kind j i
is_kind (floating f) j = false

-- z is the least, or the greatest, integer of the type
abbrev pub IsLeastOf : NumberKind → ℤ → Type 0
IsLeastOf (integral i) z = z ≡ least_number i
IsLeastOf (floating f) z = ⊥

abbrev pub IsGreatestOf : NumberKind → ℤ → Type 0
IsGreatestOf (integral i) z = z ≡ greatest_number i
IsGreatestOf (floating f) z = ⊥

-- an integer type of the same width
abbrev pub IsAsWide : IntKind → NumberKind → Type 0
IsAsWide i (integral j) = reach_of i ≡ reach_of j
IsAsWide i (floating f) = ⊥

-- both integers, each of its type, have the same little-endian bytes
abbrev pub HaveSameBytes : IntKind → ℤ → IntKind → ℤ → Type 0
HaveSameBytes i x j y = (bs : List ℕ) × (AreBytesOf i x bs × AreBytesOf j y bs)

-- The integer as one of type i, where that holds it. Its numeric value is read by `number`.
abbrev pub GivesNumber : {A : Type 0} → IntKind → (A → ℤ) → PValue → Result A ScalarError → Type 0
GivesNumber i number v r = (is_ok r ≡ in_range i (integer_of v)) ×
    (IfOk r (λ n. number n ≡ integer_of v)) × (IfErr r (λ e. e ≡ Invalid))
