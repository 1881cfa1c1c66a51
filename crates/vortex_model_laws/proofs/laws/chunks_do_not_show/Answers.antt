use Rattle.vortex_model_laws.proofs.Batches.{eq_answers}
use Rattle.vortex_model_laws.proofs.laws.chunks_do_not_show.Goals as goal

pub returns : goal.returns
returns c = eq_answers
