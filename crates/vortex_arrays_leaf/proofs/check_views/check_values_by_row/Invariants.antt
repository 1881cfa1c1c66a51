use Rattle.std.proofs.Common.{ℕ, ◌<◌}
use Rattle.vortex_arrays_core.specs.LayoutOf.{valid_of, strings_of}
use Rattle.vortex_arrays_leaf.specs.Strings.{HoldsAt}
use Rattle.vortex_arrays_leaf.proofs.check_views.check_values_by_row.Given as goal

abbrev pub invariant-loop-i : goal.invariant-loop-i
invariant-loop-i l = (k : ℕ) → k < l.i → HoldsAt (strings_of l.kind) l.views l.buffers (valid_of l.validity) k
