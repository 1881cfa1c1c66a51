use Rattle.std.proofs.Common.{ℕ, ◌<◌}
use Rattle.vortex_arrays_model.specs.Layout.{bools, required, by_array}
use Rattle.vortex_arrays_leaf.specs.Strings.{HasValueAt}
use Rattle.vortex_arrays_leaf.proofs.check_views.check_views_where.Given as goal

abbrev pub invariant-loop-i : goal.invariant-loop-i
invariant-loop-i l = (k : ℕ) → k < l.i → HasValueAt l.views l.buffers (by_array (bools l.bits required)) k
