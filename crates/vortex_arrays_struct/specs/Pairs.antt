-- Struct arrays from pairs of a name and an array.
use Rattle.std.specs.Prelude.{◌≡◌, ◌<◌, ℕ, List, length, map}
use Rattle.vortex_arrays_view.specs.declared.error.ArrayError.{ArrayError}
use Rattle.vortex_arrays_view.specs.declared.error.ArrayError.TheVariants.{Memory, LengthMismatch, WrongType}
use Rattle.vortex_arrays_model.specs.Layout.{Layout, records, Valid}
use Rattle.vortex_arrays_model.specs.Parts.{columns_of}
use Rattle.vortex_arrays_struct.specs.RecordFaults.{TellsNulls, FitTogether}

abbrev pub names_of : List (List ℕ × Layout) → List (List ℕ)
names_of pairs = map (λ pair. pair.0) pairs

abbrev pub arrays_of : List (List ℕ × Layout) → List Layout
arrays_of pairs = map (λ pair. pair.1) pairs

-- there is a pair, and each array and the validity have n rows
abbrev pub FitPairs : List (List ℕ × Layout) → Valid → ℕ → Type 0
FitPairs pairs v n = (0 < length pairs) × FitTogether (names_of pairs) (arrays_of pairs) n v

-- r has a column for each pair and these nulls
pub record IsOfPairs (pairs : List (List ℕ × Layout)) (v : Valid) (r : Layout) : Type 0 where
  pub rows : ℕ
  pub fit : FitPairs pairs v rows
  pub made : r ≡ records (columns_of (names_of pairs) (arrays_of pairs)) rows v

-- The type of the validity goes before any length. Without a pair the number of rows is unknown.
abbrev pub IsPairsFault : ArrayError → List (List ℕ × Layout) → Valid → Type 0
IsPairsFault Memory pairs v = Unit {0}
IsPairsFault LengthMismatch pairs v = TellsNulls v × ((n : ℕ) → ¬ FitPairs pairs v n)
IsPairsFault WrongType pairs v = ¬ TellsNulls v
IsPairsFault e pairs v = ⊥
