use Rattle.vortex_model_laws.proofs.Binding.{bound_falsifier}
use Rattle.vortex_model_laws.proofs.laws.bound_falsifiers_are_sound.Goals as goal

pub returns : goal.returns
returns c = bound_falsifier
