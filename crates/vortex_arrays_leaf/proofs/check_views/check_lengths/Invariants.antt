use Rattle.std.proofs.Common.{ℕ, ◌<◌}
use Rattle.vortex_arrays_core.specs.LayoutOf.{valid_of}
use Rattle.vortex_arrays_leaf.specs.ViewFaults.{IsLongAt}
use Rattle.vortex_arrays_leaf.proofs.check_views.check_lengths.Given as goal

abbrev pub invariant-loop-i : goal.invariant-loop-i
invariant-loop-i l = (k : ℕ) → k < l.i → IsLongAt l.views l.buffers (valid_of l.validity) k → ⊥
