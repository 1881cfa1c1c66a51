use Rattle.vortex_arrays_view.proofs.Made.{views_read_back}
use Rattle.vortex_arrays_view.proofs.laws.views_read_back.Goals as goal

pub returns : goal.returns
returns c = views_read_back
