use Rattle.vortex_model_laws.proofs.GroupSkipping.{none_lost}
use Rattle.vortex_model_laws.proofs.Skipping.{asked_sound}
use Rattle.vortex_model_laws.proofs.laws.skipping_groups_loses_none.Goals as goal

pub returns : goal.returns
returns c = λ t e asked table. none_lost t e (asked_sound t e asked) table
