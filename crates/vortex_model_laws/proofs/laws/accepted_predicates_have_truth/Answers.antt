use Rattle.vortex_model_laws.proofs.Accepted.{accepted_truth}
use Rattle.vortex_model_laws.proofs.laws.accepted_predicates_have_truth.Goals as goal

pub returns : goal.returns
returns c = accepted_truth
