-- Struct arrays whose fields have stated types.
use Rattle.std.specs.Prelude.{◌≡◌, ◌⊎◌, ℕ, List, [], ◌∷◌}
use Rattle.vortex_model.specs.LogicalType.{Fields, no_fields, field}
use Rattle.vortex_dtype_fields.specs.Records.{names_of}
use Rattle.vortex_arrays_view.specs.declared.error.ArrayError.{ArrayError}
use Rattle.vortex_arrays_view.specs.declared.error.ArrayError.TheVariants as error
use Rattle.vortex_arrays_model.specs.Layout.{Layout, Valid, array_type_of}
use Rattle.vortex_arrays_struct.specs.RecordFaults.{TellsNulls, FitTogether}

-- each array has the type stated for its index, as far as both lists go
abbrev pub AreOfTypes : Fields → List Layout → Type 0
AreOfTypes no_fields ls = Unit {0}
AreOfTypes (field x k fs) [] = Unit {0}
AreOfTypes (field x k fs) (l ∷ ls) = (array_type_of l ≡ k) × AreOfTypes fs ls

-- the types go before any length
abbrev pub IsTypedFault : ArrayError → Fields → List Layout → ℕ → Valid → Type 0
IsTypedFault error.Memory fs ls n v = Unit {0}
IsTypedFault error.WrongType fs ls n v = (¬ TellsNulls v) ⊎ (¬ AreOfTypes fs ls)
IsTypedFault error.LengthMismatch fs ls n v =
    TellsNulls v × AreOfTypes fs ls × (¬ FitTogether (names_of fs) ls n v)
IsTypedFault e fs ls n v = ⊥
