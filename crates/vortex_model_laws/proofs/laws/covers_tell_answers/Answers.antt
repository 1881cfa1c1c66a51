use Rattle.vortex_model_laws.proofs.Covers.{answers_alike}
use Rattle.vortex_model_laws.proofs.laws.covers_tell_answers.Goals as goal

pub returns : goal.returns
returns c = answers_alike
