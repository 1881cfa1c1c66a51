-- Arrays in plain layout, one by one.
use Rattle.std.specs.Prelude.{◌≡◌, ◌<◌, List, length, map, All}
use Rattle.vortex_model.specs.LogicalType.{LogicalType}
use Rattle.vortex_arrays_model.specs.Layout.{Layout, array_type_of, rows_of}
use Rattle.vortex_arrays_builder.specs.Types.{IsPlainLayout}

-- r has the rows of the array in a plain layout, and both are of the type k
pub record IsPlainPart (k : LogicalType) (a r : Layout) : Type 0 where
  pub own : array_type_of a ≡ k
  pub kind : array_type_of r ≡ k
  pub rows : rows_of r ≡ rows_of a
  pub plain : IsPlainLayout r

-- the parts are the arrays in plain layout, and there is an array
pub record ArePlainParts (k : LogicalType) (arrays parts : List Layout) : Type 0 where
  pub some : 0 < length arrays
  pub own : All (λ a. array_type_of a ≡ k) arrays
  pub kinds : All (λ a. array_type_of a ≡ k) parts
  pub rows : map rows_of parts ≡ map rows_of arrays
  pub plain : All IsPlainLayout parts
