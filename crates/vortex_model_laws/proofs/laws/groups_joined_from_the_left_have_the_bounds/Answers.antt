use Rattle.vortex_model_laws.proofs.LeafOrder.{bounds_of_group}
use Rattle.vortex_model_laws.proofs.laws.groups_joined_from_the_left_have_the_bounds.Goals as goal

pub returns : goal.returns
returns c = bounds_of_group
