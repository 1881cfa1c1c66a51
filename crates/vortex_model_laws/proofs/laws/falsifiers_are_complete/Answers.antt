use Rattle.vortex_model_laws.proofs.Exact.{some_choice}
use Rattle.vortex_model_laws.proofs.laws.falsifiers_are_complete.Goals as goal

pub returns : goal.returns
returns c = some_choice
