use Rattle.vortex_model_laws.proofs.Values.{constant_zone}
use Rattle.vortex_model_laws.proofs.laws.constants_have_their_zone_map.Goals as goal

pub returns : goal.returns
returns c = constant_zone
