-- Why views, buffers and a validity make no array of strings or bytes.
use Rattle.std.specs.Prelude.{◌≡◌, ◌<◌, ◌⊎◌, ℕ, List, [], length, slice_index_or, IsTrue, IsUtf8}
use Rattle.vortex_model.specs.LogicalType.{LogicalType}
use Rattle.vortex_arrays_view.specs.Views.{size_of, value_of, HasValue}
use Rattle.vortex_arrays_view.specs.declared.error.ArrayError.{ArrayError}
use Rattle.vortex_arrays_view.specs.declared.error.ArrayError.TheVariants as error
use Rattle.vortex_arrays_model.specs.Layout.{Strings, texts, Valid, is_valid, HasLength}
use Rattle.vortex_arrays_core.specs.Faults.{IsValidityFault}
use Rattle.vortex_arrays_leaf.specs.Strings.{IsStringType, strings_in, HaveValues}

-- the view of a row that is not null has no value
pub record HasBadView (views buffers : List (List ℕ)) (v : Valid) : Type 0 where
  pub row : ℕ
  pub within : row < length views
  pub valid : IsTrue (is_valid v row)
  pub bad : HasValue (slice_index_or views row []) buffers → ⊥

-- the value of a row that is not null is not UTF-8
pub record HasNoText (views buffers : List (List ℕ)) (v : Valid) : Type 0 where
  pub row : ℕ
  pub within : row < length views
  pub valid : IsTrue (is_valid v row)
  pub other : IsUtf8 (value_of (slice_index_or views row []) buffers) → ⊥

-- the row is not null, and its value is too long for a buffer
abbrev pub IsLongAt : List (List ℕ) → List (List ℕ) → Valid → ℕ → Type 0
IsLongAt views buffers v i = IsTrue (is_valid v i) × HasValue (slice_index_or views i []) buffers ×
    (2147483647 < size_of (slice_index_or views i []))

abbrev pub HasLongValue : List (List ℕ) → List (List ℕ) → Valid → Type 0
HasLongValue views buffers v = (i : ℕ) × (i < length views) × IsLongAt views buffers v i

-- The type goes first, then the length, long values, the views and the UTF-8 of values.
abbrev pub IsStringsFault : ArrayError → LogicalType → List (List ℕ) → List (List ℕ) → Valid →
    Type 0
IsStringsFault error.Memory k views buffers v = Unit {0}
IsStringsFault error.WrongType k views buffers v =
    (IsStringType k v → ⊥) ⊎ IsValidityFault error.WrongType v (length views)
IsStringsFault error.LengthMismatch k views buffers v =
    IsStringType k v × IsValidityFault error.LengthMismatch v (length views)
IsStringsFault error.Total k views buffers v =
    IsStringType k v × HasLength v (length views) × HasLongValue views buffers v
IsStringsFault error.BadView k views buffers v = IsStringType k v × HasLength v (length views) ×
    (HasLongValue views buffers v → ⊥) × HasBadView views buffers v
IsStringsFault error.NotUtf8 k views buffers v = IsStringType k v × HasLength v (length views) ×
    (HasLongValue views buffers v → ⊥) × HaveValues views buffers v × (strings_in k ≡ texts) ×
    HasNoText views buffers v
IsStringsFault e k views buffers v = ⊥

-- why views have no values
abbrev pub IsViewsFault : ArrayError → List (List ℕ) → List (List ℕ) → Valid → Type 0
IsViewsFault error.BadView views buffers v = HasBadView views buffers v
IsViewsFault e views buffers v = ⊥

-- why values are not UTF-8
abbrev pub IsTextsFault : ArrayError → Strings → List (List ℕ) → List (List ℕ) → Valid → Type 0
IsTextsFault error.NotUtf8 s views buffers v = (s ≡ texts) × HasNoText views buffers v
IsTextsFault e s views buffers v = ⊥
