use Rattle.vortex_stats_evaluate.proofs.Saying.{says_the_same}
use Rattle.vortex_stats_evaluate.proofs.laws.bound_expressions_say_the_same.Goals as goal

pub returns : goal.returns
returns c = says_the_same
