-- Arrays of strings or bytes by views.
use Rattle.std.specs.Prelude.{◌≡◌, ◌<◌, ℕ, List, [], length, slice_index_or, IsTrue}
use Rattle.vortex_model.specs.LogicalType.{LogicalType, utf8, binary}
use Rattle.vortex_arrays_view.specs.Views.{value_of, HasValue}
use Rattle.vortex_arrays_model.specs.Layout.{Layout, strings, Strings, texts, byte_strings, Valid, nullability_by, is_valid, IsString}

abbrev pub IsStrings : Layout → Type 0
IsStrings (strings s views buffers v) = Unit {0}
IsStrings a = ⊥

-- strings or bytes, nullable where the validity is
abbrev pub IsStringType : LogicalType → Valid → Type 0
IsStringType (utf8 n) v = n ≡ nullability_by v
IsStringType (binary n) v = n ≡ nullability_by v
IsStringType k v = ⊥

-- strings or bytes, by the type
abbrev pub strings_in : LogicalType → Strings
strings_in (utf8 n) = texts
strings_in k = byte_strings

-- the parts of an array
abbrev pub views_in : Layout → List (List ℕ)
views_in (strings s views buffers v) = views
views_in a = []

abbrev pub buffers_in : Layout → List (List ℕ)
buffers_in (strings s views buffers v) = buffers
buffers_in a = []

-- if the row is not null, its view has a value, which is UTF-8 in an array of strings
abbrev pub HasValueAt : List (List ℕ) → List (List ℕ) → Valid → ℕ → Type 0
HasValueAt views buffers v i = IsTrue (is_valid v i) → HasValue (slice_index_or views i []) buffers

abbrev pub HoldsAt : Strings → List (List ℕ) → List (List ℕ) → Valid → ℕ → Type 0
HoldsAt s views buffers v i =
    IsTrue (is_valid v i) → IsString s (value_of (slice_index_or views i []) buffers)

-- each row
abbrev pub HaveValues : List (List ℕ) → List (List ℕ) → Valid → Type 0
HaveValues views buffers v = (i : ℕ) → i < length views → HasValueAt views buffers v i

abbrev pub HoldStrings : Strings → List (List ℕ) → List (List ℕ) → Valid → Type 0
HoldStrings s views buffers v = (i : ℕ) → i < length views → HoldsAt s views buffers v i
