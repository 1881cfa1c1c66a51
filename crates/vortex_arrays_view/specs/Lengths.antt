-- Lengths as integers, and lengths between offsets.
use Rattle.std.specs.Prelude.{◌≡◌, false, ℕ, ℤ, ◌-ℤ◌, List, [], ◌∷◌, map, sum, unsigned_abs, All, Any}
use Rattle.std.specs.Int.{IsNonNegative}
use Rattle.vortex_model.specs.LogicalType.{IntKind}
use Rattle.vortex_model.specs.Valid.{in_range}
use Rattle.vortex_arrays_view.specs.declared.error.ArrayError.{ArrayError}
use Rattle.vortex_arrays_view.specs.declared.error.ArrayError.TheVariants as error

-- the lengths as counts of bytes
abbrev pub counts_of : List ℤ → List ℕ
counts_of lengths = map unsigned_abs lengths

-- No length is negative, and their sum is the total.
pub record AddUp (lengths : List ℤ) (total : ℕ) : Type 0 where
  pub counts : All IsNonNegative lengths
  pub sums : sum (counts_of lengths) ≡ total

-- the length from each offset to the next
abbrev pub lengths_between : List ℤ → List ℤ
lengths_between [] = []
lengths_between (offset ∷ []) = []
lengths_between (offset ∷ next ∷ offsets) = (next -ℤ offset) ∷ lengths_between (next ∷ offsets)

-- the offsets never fall
abbrev pub NeverFall : List ℤ → Type 0
NeverFall offsets = All IsNonNegative (lengths_between offsets)

-- why lengths are not counted
abbrev pub IsCountFault : ArrayError → List ℤ → ℕ → Type 0
IsCountFault error.Memory lengths total = Unit {0}
IsCountFault error.LengthMismatch lengths total = ¬ (AddUp lengths total)
IsCountFault e lengths total = ⊥

-- why there are no lengths in the offsets' integer type
abbrev pub IsLengthsFault : ArrayError → IntKind → List ℤ → Type 0
IsLengthsFault error.Memory kind lengths = Unit {0}
IsLengthsFault error.Total kind lengths = Any (λ length. in_range kind length ≡ false) lengths
IsLengthsFault e kind lengths = ⊥
