use Rattle.vortex_model_laws.proofs.Honesty.{sound_satisfier}
use Rattle.vortex_model_laws.proofs.laws.satisfiers_are_sound.Goals as goal

pub returns : goal.returns
returns c = sound_satisfier
