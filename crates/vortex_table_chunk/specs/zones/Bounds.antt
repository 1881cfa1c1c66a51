-- The statistics of the values of a leaf.
use Rattle.std.specs.Prelude.{◌≡◌, true, ℕ, List}
use Rattle.vortex_model.specs.Content.{Content}
use Rattle.vortex_model.specs.LogicalType.{LogicalType}
use Rattle.vortex_model_table.specs.Typing.{sum_kind}
use Rattle.vortex_model_table.specs.ZoneMap.{zone_of}
use Rattle.vortex_stats_array.specs.Zones.{zone_in}
use Rattle.vortex_stats_array.specs.declared.array_stats.ArrayStats.{ArrayStats}
use Rattle.vortex_table_chunk.specs.zones.Sums.{is_sum_of}

-- the statistics are the zone map of the values of a leaf of this type, at this bound length
abbrev pub IsZoneOf : LogicalType → ℕ → ArrayStats → List Content → Type 0
IsZoneOf k L b cs = zone_in b ≡ zone_of k L cs

-- the statistics are those of the contents, and the sum is of the type of the leaf's sums
pub record IsBoundsOf (k : LogicalType) (L : ℕ) (b : ArrayStats) (cs : List Content) : Type 0 where
  pub zone : IsZoneOf k L b cs
  pub kind : is_sum_of (sum_kind k) b.sum ≡ true

-- the statistics are those of the contents, as of a leaf of some type
abbrev pub WereBoundsOf : ℕ → ArrayStats → List Content → Type 0
WereBoundsOf L b cs = (k : LogicalType) × IsBoundsOf k L b cs
