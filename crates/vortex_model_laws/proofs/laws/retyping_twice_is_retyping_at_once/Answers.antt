use Rattle.vortex_model_laws.proofs.Retyping.{at_once}
use Rattle.vortex_model_laws.proofs.laws.retyping_twice_is_retyping_at_once.Goals as goal

pub returns : goal.returns
returns c = at_once c.conversions_compose.ensures c.tests_of_conversion_are_right.ensures
