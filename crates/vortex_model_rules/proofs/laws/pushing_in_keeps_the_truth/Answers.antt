use Rattle.vortex_model_rules.proofs.PushedIn.{same_truth}
use Rattle.vortex_model_rules.proofs.laws.pushing_in_keeps_the_truth.Goals as goal

pub returns : goal.returns
returns c = same_truth
