-- Tests of the parts of lists.
use Rattle.std.proofs.Common.{◌≡◌, ◌≢◌, ℕ, false, refl}
use Rattle.vortex_model.specs.LogicalType.{LogicalType, integer_type, non_nullable, nullable, nullability_of, is_nullable}
use Rattle.vortex_arrays_view.specs.declared.error.ArrayError.{ArrayError}
use Rattle.vortex_arrays_view.specs.declared.error.ArrayError.TheVariants as error
use Rattle.vortex_arrays_model.specs.Layout.{Layout, Valid, required, all_valid, all_null, by_array, len_of, array_type_of, IsInteger, IsOffsets, HasLength}
use Rattle.vortex_arrays_model.proofs.CanonicalLemmas.{offsets_are_integers}
use Rattle.vortex_arrays_core.specs.Faults.{IsValidityFault}
use Rattle.vortex_arrays_nested.specs.ListViews.{HasBooleans, IsListViewFault}
use Rattle.vortex_arrays_nested.specs.FixedLists.{IsFixedListFault}

pub offsets_are : (k : LogicalType) → IsInteger k → is_nullable (nullability_of k) ≡ false → IsOffsets k
offsets_are (integer_type i non_nullable) h e = tt
offsets_are (integer_type i nullable) h e = absurd (cc (e))
offsets_are k h e = absurd h

pub offsets_not_null : (k : LogicalType) → IsOffsets k → is_nullable (nullability_of k) ≡ false
offsets_not_null (integer_type i non_nullable) h = refl
offsets_not_null (integer_type i nullable) h = absurd h
offsets_not_null k h = absurd h

pub ruleset offsets = (offsets_are, offsets_not_null, offsets_are_integers)

-- the array of a validity of n rows has booleans
pub has_truths : (v : Valid) (n : ℕ) → HasLength v n → HasBooleans v
has_truths required n h = tt
has_truths all_valid n h = tt
has_truths all_null n h = tt
has_truths (by_array a) n h = h.2

no_truths : (v : Valid) (n : ℕ) → IsValidityFault error.WrongType v n → HasBooleans v → ⊥
no_truths (by_array a) n h t = h t
no_truths v n h t = absurd h

still_truths : (v : Valid) (n : ℕ) → IsValidityFault error.LengthMismatch v n → HasBooleans v
still_truths (by_array a) n h = h.0
still_truths v n h = absurd h

no_length : (v : Valid) (n : ℕ) → IsValidityFault error.LengthMismatch v n → HasLength v n → ⊥
no_length (by_array a) n h l = h.1 (l.1)
no_length v n h l = absurd h

-- an error of a validity is not `Memory`
pub no_memory : (e : ArrayError) (v : Valid) (n : ℕ) → IsValidityFault e v n → e ≢ error.Memory
no_memory error.Memory v n h = absurd h
no_memory e v n h = λ p. absurd (cc (p))

pub list_view_fault : (x : ArrayError) (e o s : Layout) (v : Valid) → IsOffsets (array_type_of o) → IsOffsets (array_type_of s) → IsValidityFault x v (len_of o) → IsListViewFault x e o s v
list_view_fault error.WrongType e o s v ho hs h = λ typed. no_truths v (len_of o) h (typed.2)
list_view_fault error.LengthMismatch e o s v ho hs h = ((ho, hs, still_truths v (len_of o) h), λ many. no_length v (len_of o) h (many.1))
list_view_fault x e o s v ho hs h = absurd h

pub fixed_list_fault : (x : ArrayError) (e : Layout) (s n : ℕ) (v : Valid) → IsValidityFault x v n → IsFixedListFault x e s n v
fixed_list_fault error.Memory e s n v h = tt
fixed_list_fault error.ElementCount e s n v h = absurd h
fixed_list_fault x e s n v h = h

pub ruleset validity_faults = (has_truths, no_memory, list_view_fault, fixed_list_fault)
