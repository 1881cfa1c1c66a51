use Rattle.vortex_model_laws.proofs.Answers.{answers_held}
use Rattle.vortex_model_laws.proofs.laws.answers_are_of_their_type.Goals as goal

pub returns : goal.returns
returns c = answers_held
