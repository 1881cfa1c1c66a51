use Rattle.vortex_model_laws.proofs.Groups.{honest_bounds}
use Rattle.vortex_model_laws.proofs.laws.group_bounds_are_honest.Goals as goal

pub returns : goal.returns
returns c = honest_bounds
