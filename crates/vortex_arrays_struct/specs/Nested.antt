-- When a slice of a slice is refused.
use Rattle.std.specs.Prelude.{◌≤◌, ◌-◌, ℕ}
use Rattle.vortex_arrays_view.specs.declared.error.ArrayError.{ArrayError}
use Rattle.vortex_arrays_view.specs.declared.error.ArrayError.TheVariants.{Memory, OutOfRange}

-- one range is within n rows, and another within the rows of that one
abbrev pub AreNested : ℕ → ℕ → ℕ → ℕ → ℕ → Type 0
AreNested n start end first last = (start ≤ end) × (end ≤ n) × (first ≤ last) × (last ≤ end - start)

abbrev pub IsNestedFault : ArrayError → ℕ → ℕ → ℕ → ℕ → ℕ → Type 0
IsNestedFault Memory n start end first last = Unit {0}
IsNestedFault OutOfRange n start end first last = ¬ AreNested n start end first last
IsNestedFault e n start end first last = ⊥
