use Rattle.vortex_model_laws.proofs.GroupSkipping.{group_honest}
use Rattle.vortex_model_laws.proofs.laws.group_binders_are_honest.Goals as goal

pub returns : goal.returns
returns c = group_honest
