-- The type at a path.
use Rattle.std.specs.Prelude.{List, [], ◌∷◌, Option, Some, None, option_and_then}
use Rattle.vortex_model.specs.LogicalType.{LogicalType, list, fixed_list, struct}
use Rattle.vortex_model.specs.Path.{Step, name, element, position_named, field_at}

-- the type of a struct's first field of a name, or of a list's elements
abbrev pub part_along : LogicalType → Step → Option LogicalType
part_along (struct fs n) (name x) = option_and_then (field_at fs) (position_named fs x)
part_along (list k n) element = Some k
part_along (fixed_list k m n) element = Some k
part_along k s = None

-- the type at a path, step by step
abbrev pub type_along : Option LogicalType → List Step → Option LogicalType
type_along None p = None
type_along (Some k) [] = Some k
type_along (Some k) (s ∷ p) = type_along (part_along k s) p

abbrev pub resolved : LogicalType → List Step → Option LogicalType
resolved k p = type_along (Some k) p
