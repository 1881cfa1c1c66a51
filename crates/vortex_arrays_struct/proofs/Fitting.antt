-- Parts that fit together.
use Rattle.std.proofs.Common.{◌≡◌, ◌≢◌, ◌<◌, ◌+◌, ℕ, zero, suc, List, [], ◌∷◌, length, get_or, ⊎_elim, sym, ap, subst, ◌∙◌, arith}
use Rattle.std.specs.List.{All}
use Rattle.vortex_arrays_view.specs.declared.error.ArrayError.{ArrayError}
use Rattle.vortex_arrays_view.specs.declared.error.ArrayError.TheVariants.{Memory, LengthMismatch, WrongType}
use Rattle.vortex_arrays_model.specs.Layout.{Layout, records, Valid, required, all_valid, all_null, by_array, len_of, IsSound, HasLength}
use Rattle.vortex_arrays_model.specs.Parts.{columns_of}
use Rattle.vortex_arrays_model.proofs.PicksLemmas.{have_length}
use Rattle.vortex_arrays_model.proofs.CanonicalLemmas.{last_or_before}
use Rattle.vortex_arrays_core.specs.Faults.{IsValidityFault}
use Rattle.vortex_arrays_struct.specs.RecordFaults.{TellsNulls, TellsOf, FitTogether, IsRecordsFault}

-- one more field
pub item_at : (fs : List Layout) (k : ℕ) (a d : Layout) → k < length fs → a ≡ get_or fs k a → get_or fs k d ≡ a
item_at [] k a d l e = absurd (omega (arith, l))
item_at (b ∷ fs) zero a d l e = sym e
item_at (b ∷ fs) (suc k) a d l e = item_at fs k a d (omega (arith, l)) e

pub each_more : (P : Layout → Type 0) (fs : List Layout) (i : ℕ) (a : Layout) → i < length fs → a ≡ get_or fs i a → P a → ((k : ℕ) (d : Layout) → k < i → P (get_or fs k d)) → (k : ℕ) (d : Layout) → k < i + 1 → P (get_or fs k d)
each_more P fs i a l e p h k d m = ⊎_elim
    (λ before. h k d before)
    (λ last. subst P (sym (item_at fs i a d l e) ∙ ap (λ j. get_or fs j d) (sym last)) p)
    (last_or_before k i m)

pub not_each : (fs : List Layout) (n i : ℕ) (a : Layout) → i < length fs → a ≡ get_or fs i a → len_of a ≢ n → All (λ b. len_of b ≡ n) fs → ⊥
not_each fs n i a l e other h = other (ap len_of e ∙ h i a l)

-- the validity
pub nulls_told : (v : Valid) (n : ℕ) → HasLength v n → TellsNulls v
nulls_told required n h = tt
nulls_told all_valid n h = tt
nulls_told all_null n h = tt
nulls_told (by_array a) n h = h.2

told_of : (v : Valid) (n : ℕ) → HasLength v n → TellsOf v n
told_of required n h = tt
told_of all_valid n h = tt
told_of all_null n h = tt
told_of (by_array a) n h = h.1

pub fit_together : (xs : List (List ℕ)) (fs : List Layout) (n : ℕ) (v : Valid) → HasLength v n → length xs ≡ length fs → All (λ a. len_of a ≡ n) fs → FitTogether xs fs n v
fit_together xs fs n v h e rows = record { named = e; rows = rows; validity = told_of v n h }

pub parts_sound : (xs : List (List ℕ)) (fs : List Layout) (n : ℕ) (v : Valid) → HasLength v n → All IsSound fs → All (λ a. len_of a ≡ n) fs → IsSound (records (columns_of xs fs) n v)
parts_sound xs fs n v h sound rows = (have_length xs fs n sound rows, h)

pub validity_fault : (e : ArrayError) (xs : List (List ℕ)) (fs : List Layout) (n : ℕ) (v : Valid) → IsValidityFault e v n → IsRecordsFault e xs fs n v
validity_fault WrongType xs fs n (by_array a) h = h
validity_fault LengthMismatch xs fs n (by_array a) h = (h.0, λ f. h.1 f.validity)
validity_fault e xs fs n v h = absurd h

-- an error of a validity is not `Memory`
pub no_memory : (e : ArrayError) (v : Valid) (n : ℕ) → IsValidityFault e v n → e ≢ Memory
no_memory Memory v n h = absurd h
no_memory e v n h = λ p. absurd (cc (p))

pub other_count : (xs : List (List ℕ)) (fs : List Layout) (n : ℕ) (v : Valid) → HasLength v n → length xs ≢ length fs → IsRecordsFault LengthMismatch xs fs n v
other_count xs fs n v h other = (nulls_told v n h, λ f. other f.named)

pub other_rows : (xs : List (List ℕ)) (fs : List Layout) (n : ℕ) (v : Valid) → HasLength v n → (¬ All (λ a. len_of a ≡ n) fs) → IsRecordsFault LengthMismatch xs fs n v
other_rows xs fs n v h other = (nulls_told v n h, λ f. other f.rows)

pub ruleset fitting = (nulls_told, fit_together, parts_sound, validity_fault, no_memory, other_count, other_rows)
