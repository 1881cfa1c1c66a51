use Rattle.std.proofs.Common.{map, take}
use Rattle.vortex_table_zonemaps.specs.Stats.{zone_of}
use Rattle.vortex_table_zonemaps.specs.Zones.{AreZoneMaps}
use Rattle.vortex_table_zonemaps.proofs.zone_maps.ZoneMaps.of_chunks.Given as goal

abbrev pub invariant-loop-index : goal.invariant-loop-index
invariant-loop-index l = AreZoneMaps l.maps (map zone_of (take l.index l.chunks))
