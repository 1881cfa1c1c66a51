use Rattle.vortex_arrays_view.proofs.Ordered.{inlined_order}
use Rattle.vortex_arrays_view.proofs.laws.inlined_views_are_in_order.Goals as goal

pub returns : goal.returns
returns c = inlined_order
