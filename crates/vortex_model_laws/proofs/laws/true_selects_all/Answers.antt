use Rattle.vortex_model_laws.proofs.Answers.{true_answers}
use Rattle.vortex_model_laws.proofs.laws.true_selects_all.Goals as goal

pub returns : goal.returns
returns c = true_answers
