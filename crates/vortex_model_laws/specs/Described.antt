-- The law of descriptions of columns of groups.
use Rattle.std.specs.Prelude.{◌≡◌, ℕ, flat_map, Some, true}
use Rattle.vortex_model.specs.LogicalType.{LogicalType}
use Rattle.vortex_model.specs.Path.{Positions, type_at}
use Rattle.vortex_model.specs.Kept.{is_leaf}
use Rattle.vortex_model_table.specs.Statistics.{IsHonest}
use Rattle.vortex_model_table.specs.ZoneMap.{ZoneMap, values_at, statistics_of}
use Rattle.vortex_model_table.specs.Table.{Table, IsTable}
use Rattle.vortex_model_table.specs.Reply.{chunks_of_group, Describes}

-- What is described of a leaf column of a group is honest over the group's rows, and the null count
-- is theirs.
abbrev pub DescriptionsAreHonest : Type 0
DescriptionsAreHonest = (t : Table) (is : Positions) (k : LogicalType) (i : ℕ) (z : ZoneMap) →
    IsTable t → type_at t.kind is ≡ Some k → is_leaf k ≡ true → Describes t is i z →
    IsHonest (statistics_of z) (values_at is (flat_map (λ chunk. chunk) (chunks_of_group t i)))
