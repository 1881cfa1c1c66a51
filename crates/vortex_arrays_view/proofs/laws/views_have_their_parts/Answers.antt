use Rattle.vortex_arrays_view.proofs.Made.{views_have_their_parts}
use Rattle.vortex_arrays_view.proofs.laws.views_have_their_parts.Goals as goal

pub returns : goal.returns
returns c = views_have_their_parts
