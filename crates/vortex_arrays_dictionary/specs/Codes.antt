-- The numbers of values as codes.
use Rattle.std.specs.Prelude.{◌≡◌, ◌-◌, ℕ, pos, List, map, true}
use Rattle.vortex_model.specs.LogicalType.{IntKind}
use Rattle.vortex_dtype_ptype.specs.Numbers.{HoldsNarrowly}
use Rattle.vortex_arrays_model.specs.Layout.{Layout, numbers, Valid}

-- a is the numbers ns of m values, in the narrowest unsigned type that has them all
pub record AreCodes (ns : List ℕ) (m : ℕ) (v : Valid) (a : Layout) : Type 0 where
  pub kind : IntKind
  pub made : a ≡ numbers kind (map pos ns) v
  pub narrow : HoldsNarrowly true (pos (m - 1)) kind
