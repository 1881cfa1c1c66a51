use Rattle.vortex_model_laws.proofs.Classes.{single_wide}
use Rattle.vortex_model_laws.proofs.laws.single_use_trees_are_wide.Goals as goal

pub returns : goal.returns
returns c = single_wide
