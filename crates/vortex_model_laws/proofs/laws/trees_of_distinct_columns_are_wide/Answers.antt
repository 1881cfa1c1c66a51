use Rattle.vortex_model_laws.proofs.Classes.{distinct_wide}
use Rattle.vortex_model_laws.proofs.laws.trees_of_distinct_columns_are_wide.Goals as goal

pub returns : goal.returns
returns c = distinct_wide
