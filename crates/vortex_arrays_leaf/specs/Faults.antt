-- Why values and a validity make no array.
use Rattle.std.specs.Prelude.{ℕ}
use Rattle.vortex_arrays_view.specs.declared.error.ArrayError.{ArrayError}
use Rattle.vortex_arrays_view.specs.declared.error.ArrayError.TheVariants.{Memory}
use Rattle.vortex_arrays_model.specs.Layout.{Valid}
use Rattle.vortex_arrays_core.specs.Faults.{IsValidityFault}

-- memory ran out, or the validity does not fit n values
abbrev pub IsLeafFault : ArrayError → Valid → ℕ → Type 0
IsLeafFault Memory v n = Unit {0}
IsLeafFault e v n = IsValidityFault e v n
