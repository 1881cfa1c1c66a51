-- The values of a row's fields.
use Rattle.std.specs.Prelude.{◌≡◌, List, [], ◌∷◌, map, Option, Bool, true, false, ◌&&◌}
use Rattle.vortex_model.specs.LogicalType.{LogicalType}
use Rattle.vortex_model.specs.Content.{Raw}
use Rattle.vortex_model.specs.Valid.{valid}
use Rattle.vortex_scalar_value.specs.View.{raw_in}
use Rattle.vortex_scalar_value.specs.declared.scalar_value.ScalarValue.{ScalarValue}

-- one raw value for each type, which has it
abbrev pub all_valid : List LogicalType → List Raw → Bool
all_valid [] [] = true
all_valid (k ∷ ks) (r ∷ rs) = valid k r && all_valid ks rs
all_valid ks rs = false

-- the values are these raw values, of these types
pub record AreCells (ks : List LogicalType) (rs : List Raw) (vs : List (Option ScalarValue)) : Type 0 where
  pub values : map raw_in vs ≡ rs
  pub valid : all_valid ks rs ≡ true
