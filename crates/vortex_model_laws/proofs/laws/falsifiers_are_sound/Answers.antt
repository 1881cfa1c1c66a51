use Rattle.vortex_model_laws.proofs.Honesty.{sound_falsifier}
use Rattle.vortex_model_laws.proofs.laws.falsifiers_are_sound.Goals as goal

pub returns : goal.returns
returns c = sound_falsifier
