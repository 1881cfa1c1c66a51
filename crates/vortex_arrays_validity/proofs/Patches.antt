-- Why rows are not overwritten.
use Rattle.std.proofs.Common.{◌≡◌, ℕ, refl}
use Rattle.vortex_arrays_view.specs.declared.error.ArrayError.{ArrayError}
use Rattle.vortex_arrays_view.specs.declared.error.ArrayError.TheVariants.{LengthMismatch, WrongType}
use Rattle.vortex_arrays_model.specs.Layout.{Valid, required, all_valid, all_null, by_array, HasLength}
use Rattle.vortex_arrays_core.specs.Faults.{IsValidityFault}

-- a validity that fits has booleans
pub typed : (v : Valid) (n : ℕ) → HasLength v n → ¬ IsValidityFault WrongType v n
typed required n h bad = absurd bad
typed all_valid n h bad = absurd bad
typed all_null n h bad = absurd bad
typed (by_array a) n h bad = bad h.2

-- and so has one of another length
pub typed_too : (v : Valid) (n : ℕ) → IsValidityFault LengthMismatch v n → ¬ IsValidityFault WrongType v n
typed_too required n h bad = absurd bad
typed_too all_valid n h bad = absurd bad
typed_too all_null n h bad = absurd bad
typed_too (by_array a) n h bad = bad h.0

pub other_fault : (e : ArrayError) (v : Valid) (n : ℕ) → IsValidityFault e v n → ¬ (e ≡ WrongType) → ¬ IsValidityFault WrongType v n
other_fault WrongType v n h other = absurd (other refl)
other_fault LengthMismatch v n h other = typed_too v n h
other_fault e v n h other = absurd h

pub ruleset types = (typed, typed_too, other_fault)
