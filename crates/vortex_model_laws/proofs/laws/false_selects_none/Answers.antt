use Rattle.vortex_model_laws.proofs.Answers.{false_answers}
use Rattle.vortex_model_laws.proofs.laws.false_selects_none.Goals as goal

pub returns : goal.returns
returns c = false_answers
