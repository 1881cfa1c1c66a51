-- Parts of typed arrays.
use Rattle.std.proofs.Common.{◌≡◌, ℕ, List, length, nat_eq}
use Rattle.std.specs.List.{list_any}
use Rattle.std.proofs.lemmas.List.FromFn.{length-map-range_with_len}
use Rattle.vortex_arrays_buffer.specs.Bits.{bits_at}
use Rattle.vortex_arrays_view.specs.declared.error.ArrayError.{ArrayError}
use Rattle.vortex_arrays_view.specs.declared.error.ArrayError.TheVariants.{Memory}
use Rattle.vortex_arrays_model.specs.Layout.{Valid}
use Rattle.vortex_arrays_core.specs.Faults.{IsValidityFault}
use Rattle.vortex_arrays_leaf.specs.Faults.{IsLeafFault}

-- a validity that does not fit makes no array
pub leaf_fault : (e : ArrayError) (v : Valid) (n : ℕ) → IsValidityFault e v n → IsLeafFault e v n
leaf_fault Memory v n h = tt
leaf_fault e v n h = h

-- there is a bit for each index
pub bits_at_count : (n : ℕ) (places : List ℕ) → length (bits_at n places) ≡ n
bits_at_count n places = length-map-range_with_len (λ i. list_any (nat_eq i) places) 0 n
