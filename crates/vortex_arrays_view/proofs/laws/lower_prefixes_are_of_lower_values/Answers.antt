use Rattle.vortex_arrays_view.proofs.Ordered.{prefix_order}
use Rattle.vortex_arrays_view.proofs.laws.lower_prefixes_are_of_lower_values.Goals as goal

pub returns : goal.returns
returns c = prefix_order
