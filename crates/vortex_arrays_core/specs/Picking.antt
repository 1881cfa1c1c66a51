-- The errors of slices and takes.
use Rattle.std.specs.Prelude.{◌≤◌, ℕ, IsTrue}
use Rattle.vortex_model.specs.LogicalType.{LogicalType, integer_type}
use Rattle.vortex_dtype_ptype.specs.Numbers.{is_natural}
use Rattle.vortex_arrays_model.specs.Layout.{Layout, array_type_of}
use Rattle.vortex_arrays_model.specs.Parts.{AreWithin}
use Rattle.vortex_arrays_view.specs.declared.error.ArrayError.{ArrayError}
use Rattle.vortex_arrays_view.specs.declared.error.ArrayError.TheVariants.{Memory, OutOfRange, WrongType}

-- unsigned integer types
abbrev pub IsUnsigned : LogicalType → Type 0
IsUnsigned (integer_type k n) = IsTrue (is_natural k)
IsUnsigned k = ⊥

-- the errors of a slice from a start to an end of n rows
abbrev pub IsSliceFault : ArrayError → ℕ → ℕ → ℕ → Type 0
IsSliceFault Memory n start end = Unit {0}
IsSliceFault OutOfRange n start end = ¬ ((start ≤ end) × (end ≤ n))
IsSliceFault e n start end = ⊥

-- the errors of a take at indices of n rows
abbrev pub IsTakeFault : ArrayError → ℕ → Layout → Type 0
IsTakeFault Memory n positions = Unit {0}
IsTakeFault WrongType n positions = ¬ IsUnsigned (array_type_of positions)
IsTakeFault OutOfRange n positions =
    IsUnsigned (array_type_of positions) × (¬ AreWithin positions n)
IsTakeFault e n positions = ⊥
