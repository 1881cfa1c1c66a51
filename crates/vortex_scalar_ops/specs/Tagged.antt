-- Variants of a union by tag.
use Rattle.std.specs.Prelude.{ℤ, Option, Some, None, if◌then◌else◌}
use Rattle.std.specs.Ordering.{int_eq}
use Rattle.vortex_model.specs.LogicalType.{LogicalType, Variants, no_variants, choice}

-- the type of the variant with this tag
abbrev pub type_under : Variants → ℤ → Option LogicalType
type_under no_variants t = None
type_under (choice x u k vs) t = if int_eq u t then Some k else type_under vs t
