-- What is built from bytes and lengths, and when that fails.
use Rattle.std.specs.Prelude.{◌≡◌, ◌≤◌, ◌<◌, ◌+◌, ◌^◌, ◌⊎◌, ◌++◌, ℕ, ℤ, List, [], length, slice_index_or, All, Any, min}
use Rattle.vortex_arrays_view.specs.Views.{value_of, HasValue}
use Rattle.vortex_arrays_view.specs.Made.{short_view}
use Rattle.vortex_arrays_view.specs.declared.error.ArrayError.{ArrayError}
use Rattle.vortex_arrays_view.specs.declared.error.ArrayError.TheVariants as error
use Rattle.vortex_arrays_view.specs.Cuttings.{value_in, IsCutting, IsFewest}
use Rattle.vortex_arrays_view.specs.Lengths.{counts_of, AddUp}

-- The view of a value beside these buffers, which have the indices from `first` on. It is the value
-- itself where that is short.
pub record IsViewOf (value : List ℕ) (first : ℕ) (buffers : List (List ℕ)) (view : List ℕ) : Type 0
  where
    pub short : length value ≤ 12 → view ≡ short_view value
    pub reads : (others : List (List ℕ)) → length others ≡ first →
        HasValue view (others ++ buffers) × (value_of view (others ++ buffers) ≡ value)

-- a view for each of the values
pub record AreViews (bytes lengths : List ℕ) (first : ℕ) (buffers views : List (List ℕ)) : Type 0
  where
    pub count : length views ≡ length lengths
    pub each : (i : ℕ) → i < length lengths →
        IsViewOf (value_in bytes lengths i) first buffers (slice_index_or views i [])

-- The bytes in the fewest buffers, whose indices from `first` on have 32 bits, and views of the
-- values.
pub record IsBuilt (bytes lengths : List ℕ) (first limit : ℕ) (buffers views : List (List ℕ)) : Type
    0 where
  pub fewest : IsFewest bytes lengths limit buffers
  pub indices : first + length buffers ≤ 2 ^ 32
  pub viewed : AreViews bytes lengths first buffers views

-- no value is longer than the limit
abbrev pub AreWithin : ℕ → List ℕ → Type 0
AreWithin limit lengths = All (λ count. count ≤ limit) lengths

-- every cutting has a buffer whose index exceeds 32 bits
abbrev pub IsTooMany : List ℕ → List ℕ → ℕ → ℕ → Type 0
IsTooMany bytes lengths first limit = (buffers : List (List ℕ)) →
    IsCutting bytes lengths limit buffers → 2 ^ 32 < first + length buffers

-- why values within the limit are not placed
abbrev pub IsPlaceFault : ArrayError → List ℕ → List ℕ → ℕ → ℕ → Type 0
IsPlaceFault error.Memory bytes lengths first limit = Unit {0}
IsPlaceFault error.Total bytes lengths first limit = IsTooMany bytes lengths first limit
IsPlaceFault e bytes lengths first limit = ⊥

-- why values that add up to the bytes are not placed
abbrev pub IsLimitFault : ArrayError → List ℕ → List ℕ → ℕ → ℕ → Type 0
IsLimitFault error.Memory bytes lengths first limit = Unit {0}
IsLimitFault error.Total bytes lengths first limit =
    Any (λ count. limit < count) lengths ⊎ IsTooMany bytes lengths first limit
IsLimitFault e bytes lengths first limit = ⊥

-- why nothing is built from bytes and lengths
abbrev pub IsBuildFault : ArrayError → List ℕ → List ℤ → ℕ → ℕ → Type 0
IsBuildFault error.Memory bytes lengths first limit = Unit {0}
IsBuildFault error.LengthMismatch bytes lengths first limit = ¬ (AddUp lengths (length bytes))
IsBuildFault error.Total bytes lengths first limit =
    AddUp lengths (length bytes) × IsLimitFault error.Total bytes (counts_of lengths) first limit
IsBuildFault e bytes lengths first limit = ⊥

-- the limit that applies: no buffer is longer than a view can refer to
abbrev pub limit_of : ℕ → ℕ
limit_of asked = min asked 2147483647
