use Rattle.vortex_model_rules.proofs.FaultsOfAnswers.{both_faults}
use Rattle.vortex_model_rules.proofs.laws.faults_are_those_of_answers.Goals as goal

pub returns : goal.returns
returns c = both_faults
