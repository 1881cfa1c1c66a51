use Rattle.vortex_table_zonemaps.proofs.Held.{no_zones}
use Rattle.vortex_table_zonemaps.proofs.leaf.LeafZones.new.Goals as goal

pub returns : goal.returns
returns c = λ j. no_zones j _
