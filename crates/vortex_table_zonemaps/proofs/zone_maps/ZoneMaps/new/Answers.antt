use Rattle.vortex_table_zonemaps.proofs.Held.{nothing, no_zones}
use Rattle.vortex_table_zonemaps.proofs.zone_maps.ZoneMaps.new.Goals as goal

pub returns : goal.returns
returns c = record {
  leaves = λ j leaf l. no_zones j _;
  rows = nothing _;
}
