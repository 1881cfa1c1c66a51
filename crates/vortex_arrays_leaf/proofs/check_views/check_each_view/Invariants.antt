use Rattle.std.proofs.Common.{ℕ, ◌<◌, [], slice_index_or}
use Rattle.vortex_arrays_view.specs.Views.{HasValue}
use Rattle.vortex_arrays_leaf.proofs.check_views.check_each_view.Given as goal

abbrev pub invariant-loop-i : goal.invariant-loop-i
invariant-loop-i l = (k : ℕ) → k < l.i → HasValue (slice_index_or l.views k []) l.buffers
