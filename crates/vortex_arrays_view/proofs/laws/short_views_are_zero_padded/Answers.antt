use Rattle.vortex_arrays_view.proofs.Made.{short_views}
use Rattle.vortex_arrays_view.proofs.laws.short_views_are_zero_padded.Goals as goal

pub returns : goal.returns
returns c = short_views
