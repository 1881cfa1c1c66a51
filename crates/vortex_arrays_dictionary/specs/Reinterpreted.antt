-- Integers with the same bytes in another type.
use Rattle.std.specs.Prelude.{◌≡◌, ◌<◌, ℕ, ℤ, pos, List, length, slice_index_or}
use Rattle.vortex_model.specs.LogicalType.{IntKind}
use Rattle.vortex_dtype_ptype.specs.Numbers.{NumberKind, integral}
use Rattle.vortex_scalar_value.specs.Numbers.{HaveSameBytes}
use Rattle.vortex_arrays_model.specs.Layout.{Layout}
use Rattle.vortex_arrays_model.specs.Parts.{valid_in}
use Rattle.vortex_arrays_leaf.specs.Shapes.{type_in, integers_in}

-- the integers in two types have the same bytes, one by one
pub record AreReinterpreted (i : IntKind) (xs : List ℤ) (j : IntKind) (ys : List ℤ) : Type 0 where
  pub many : length ys ≡ length xs
  pub each : (n : ℕ) → n < length xs →
      HaveSameBytes i (slice_index_or xs n (pos 0)) j (slice_index_or ys n (pos 0))

-- r has the type k, its integers have the bytes of those of a, and the same rows are null
pub record IsReinterpreted (a : Layout) (k : NumberKind) (r : Layout) : Type 0 where
  pub kind : integral (type_in r) ≡ k
  pub nulls : valid_in r ≡ valid_in a
  pub bytes : AreReinterpreted (type_in a) (integers_in a) (type_in r) (integers_in r)
