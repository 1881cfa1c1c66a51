-- The positions of a leaf column.
use Rattle.std.specs.Prelude.{◌≡◌, Some, true}
use Rattle.vortex_model.specs.LogicalType.{LogicalType}
use Rattle.vortex_model.specs.Path.{Names, Positions, positions}
use Rattle.vortex_model.specs.Kept.{is_leaf_at}

-- these are the positions of the names, and they lead to a leaf
pub record IsLeafPlace (k : LogicalType) (xs : Names) (is : Positions) : Type 0 where
  pub place : positions k xs ≡ Some is
  pub leaf : is_leaf_at k is ≡ true
