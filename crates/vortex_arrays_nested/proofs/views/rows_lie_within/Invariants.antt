use Rattle.std.proofs.Common.{◌<◌, ℕ}
use Rattle.vortex_arrays_model.specs.Layout.{content_at, IsView}
use Rattle.vortex_arrays_nested.proofs.views.rows_lie_within.Given as goal

abbrev pub invariant-loop-i : goal.invariant-loop-i
invariant-loop-i l = (k : ℕ) → k < l.i → IsView l.count (content_at l.offsets k) (content_at l.sizes k)
