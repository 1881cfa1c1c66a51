use Rattle.vortex_model_laws.proofs.Zones.{honest_zone}
use Rattle.vortex_model_laws.proofs.laws.zone_maps_are_honest.Goals as goal

pub returns : goal.returns
returns c = λ k L cs w h. honest_zone k k L cs w h
