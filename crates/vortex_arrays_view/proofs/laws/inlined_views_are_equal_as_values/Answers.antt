use Rattle.vortex_arrays_view.proofs.Ordered.{inlined_equality}
use Rattle.vortex_arrays_view.proofs.laws.inlined_views_are_equal_as_values.Goals as goal

pub returns : goal.returns
returns c = inlined_equality
