use Rattle.vortex_model_laws.proofs.Binding.{bound_satisfier}
use Rattle.vortex_model_laws.proofs.laws.bound_satisfiers_are_sound.Goals as goal

pub returns : goal.returns
returns c = bound_satisfier
