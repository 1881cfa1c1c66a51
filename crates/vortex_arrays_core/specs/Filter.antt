-- When a mask does not filter an array.
use Rattle.std.specs.Prelude.{◌≢◌, List, Bool, length}
use Rattle.vortex_arrays_view.specs.declared.error.ArrayError.{ArrayError}
use Rattle.vortex_arrays_view.specs.declared.error.ArrayError.TheVariants.{Memory, LengthMismatch}
use Rattle.vortex_arrays_model.specs.Layout.{Layout, len_of}

-- a mask has a bit for each row
abbrev pub IsFilterFault : ArrayError → List Bool → Layout → Type 0
IsFilterFault Memory mask a = Unit {0}
IsFilterFault LengthMismatch mask a = length mask ≢ len_of a
IsFilterFault e mask a = ⊥
