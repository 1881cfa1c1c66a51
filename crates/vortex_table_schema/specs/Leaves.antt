-- The positions of the leaves of a type.
use Rattle.std.specs.Prelude.{ℕ, suc, List, [], ◌∷◌, ◌++◌, if◌then◌else◌}
use Rattle.vortex_model.specs.LogicalType.{LogicalType, struct, Fields, no_fields, field}
use Rattle.vortex_model.specs.Kept.{is_leaf}
use Rattle.vortex_model.specs.Path.{Positions}

-- the leaves of the part at `here` that are reached through records alone, and those of a record's
-- fields, of which the first has this position
abbrev mutual
  pub leaves_in : Positions → LogicalType → List Positions
  leaves_in here (struct fs n) = leaves_among here 0 fs
  leaves_in here k = if is_leaf k then here ∷ [] else []

  pub leaves_among : Positions → ℕ → Fields → List Positions
  leaves_among here i no_fields = []
  leaves_among here i (field x k fs) = leaves_in (here ++ i ∷ []) k ++ leaves_among here (suc i) fs

-- the positions of the leaves of a type, in order
abbrev pub leaf_positions : LogicalType → List Positions
leaf_positions k = leaves_in [] k
