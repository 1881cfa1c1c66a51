-- Why a validity does not fit.
use Rattle.std.specs.Prelude.{◌≡◌, ◌≢◌, ℕ}
use Rattle.vortex_model.specs.LogicalType.{boolean_type, non_nullable}
use Rattle.vortex_arrays_view.specs.declared.error.ArrayError.{ArrayError}
use Rattle.vortex_arrays_view.specs.declared.error.ArrayError.TheVariants.{LengthMismatch, WrongType}
use Rattle.vortex_arrays_model.specs.Layout.{Valid, by_array, len_of, array_type_of}

-- The array of a validity of n rows has the type of booleans without null, and n rows.
abbrev pub IsValidityFault : ArrayError → Valid → ℕ → Type 0
IsValidityFault WrongType (by_array a) n = array_type_of a ≢ boolean_type non_nullable
IsValidityFault LengthMismatch (by_array a) n =
    (array_type_of a ≡ boolean_type non_nullable) × (len_of a ≢ n)
IsValidityFault e v n = ⊥
