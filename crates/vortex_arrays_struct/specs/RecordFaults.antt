-- Why parts make no struct array.
use Rattle.std.specs.Prelude.{◌≡◌, ℕ, List, length}
use Rattle.std.specs.List.{All}
use Rattle.vortex_model.specs.LogicalType.{boolean_type, non_nullable}
use Rattle.vortex_arrays_view.specs.declared.error.ArrayError.{ArrayError}
use Rattle.vortex_arrays_view.specs.declared.error.ArrayError.TheVariants.{Memory, LengthMismatch, WrongType}
use Rattle.vortex_arrays_model.specs.Layout.{Layout, Valid, by_array, len_of, array_type_of}

-- the validity's array, if it has one, has the type of booleans without null
abbrev pub TellsNulls : Valid → Type 0
TellsNulls (by_array a) = array_type_of a ≡ boolean_type non_nullable
TellsNulls v = Unit {0}

-- the validity's array, if it has one, has n rows
abbrev pub TellsOf : Valid → ℕ → Type 0
TellsOf (by_array a) n = len_of a ≡ n
TellsOf v n = Unit {0}

-- as many names as fields, and n rows in each part
pub record FitTogether (names : List (List ℕ)) (fields : List Layout) (n : ℕ) (v : Valid) : Type 0
  where
    pub named : length names ≡ length fields
    pub rows : All (λ a. len_of a ≡ n) fields
    pub validity : TellsOf v n

-- the type of the validity goes before any length
abbrev pub IsRecordsFault : ArrayError → List (List ℕ) → List Layout → ℕ → Valid → Type 0
IsRecordsFault Memory names fields n v = Unit {0}
IsRecordsFault LengthMismatch names fields n v = TellsNulls v × (¬ FitTogether names fields n v)
IsRecordsFault WrongType names fields n v = ¬ TellsNulls v
IsRecordsFault e names fields n v = ⊥
