-- What proofs that are bound to zone maps say of zones.
use Rattle.std.specs.Prelude.{◌≡◌, ℕ, List, Option, Bool}
use Rattle.vortex_model.specs.Path.{Positions}
use Rattle.vortex_stats_bind.specs.Bound.{Bound}
use Rattle.vortex_table_chunk.specs.BoundStat.{zone_provided}
use Rattle.vortex_table_chunk.specs.Proved.{proved_in}
use Rattle.vortex_stats_array.specs.declared.array_stats.ArrayStats.{ArrayStats}
use Rattle.vortex_table_zonemaps.specs.Stats.{Zone}
use Rattle.vortex_table_zonemaps.specs.Zone.{columns_of}

-- in a zone of these bounds and this number of rows
abbrev pub zone_proved : List ArrayStats → ℕ → Option Bound → Bool
zone_proved bounds rows proof = proved_in (columns_of (bounds, rows)) proof

abbrev pub proved_at : Option Bound → Zone → Bool
proved_at proof zone = zone_proved zone.0 zone.1 proof

-- the resolved predicate is true of a zone where the proof is of its bounds
abbrev pub IsResolved : List Positions → Option Bound → Option Bound → Type 0
IsResolved leaves proof resolved = (bounds : List ArrayStats) (rows : ℕ) →
    zone_proved bounds rows resolved ≡ proved_in (zone_provided leaves bounds rows) proof
