use Rattle.vortex_model_laws.proofs.Skipping.{chunk_honest}
use Rattle.vortex_model_laws.proofs.laws.chunk_binders_are_honest.Goals as goal

pub returns : goal.returns
returns c = chunk_honest
