use Rattle.vortex_model_laws.proofs.Batches.{appended_answers}
use Rattle.vortex_model_laws.proofs.laws.appends_answer_behind.Goals as goal

pub returns : goal.returns
returns c = appended_answers
