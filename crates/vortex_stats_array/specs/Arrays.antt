-- What is read of an array of strings or bytes.
use Rattle.std.specs.Prelude.{◌≡◌, ℕ, false, List, Option, Some, None}
use Rattle.std.specs.Borrow.{Bor}
use Rattle.vortex_model.specs.LogicalType.{LogicalType, IntKind, boolean_type, integer_type, utf8, binary}
use Rattle.vortex_model.specs.Kept.{is_leaf}
use Rattle.vortex_dtype_ptype.specs.Numbers.{NumberKind, integral, floating}
use Rattle.vortex_model.specs.Content.{Content, null, text, byte_string}

-- types of booleans, of integers, of strings, of bytes
abbrev pub IsBooleanType : LogicalType → Type 0
IsBooleanType (boolean_type n) = Unit {0}
IsBooleanType k = ⊥

abbrev pub IsIntegerOf : IntKind → LogicalType → Type 0
IsIntegerOf i (integer_type j n) = j ≡ i
IsIntegerOf i k = ⊥

-- its values are numbers of this type
abbrev pub IsOfKind : NumberKind → LogicalType → Type 0
IsOfKind (integral i) k = IsIntegerOf i k
IsOfKind (floating f) k = is_leaf k ≡ false

abbrev pub IsTextType : LogicalType → Type 0
IsTextType (utf8 n) = Unit {0}
IsTextType k = ⊥

abbrev pub IsBinaryType : LogicalType → Type 0
IsBinaryType (binary n) = Unit {0}
IsBinaryType k = ⊥

-- strings or bytes
abbrev pub IsStringType : LogicalType → Type 0
IsStringType (utf8 n) = Unit {0}
IsStringType (binary n) = Unit {0}
IsStringType k = ⊥

-- the bytes as a value of the type: a string, or else bytes
abbrev pub string_of : LogicalType → List ℕ → Content
string_of (utf8 n) bs = text bs
string_of k bs = byte_string bs

-- the string or bytes that were read, and null where there were none
abbrev pub string_or_null : LogicalType → Option (Bor (List ℕ)) → Content
string_or_null k None = null
string_or_null k (Some bs) = string_of k bs.now
