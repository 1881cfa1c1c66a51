use Rattle.std.proofs.Common.{◌≡◌, length}
use Rattle.vortex_model.specs.Order.{bytes_cmp}
use Rattle.vortex_arrays_view.proofs.order.order_bytes.Given as goal

abbrev pub invariant-loop-first : goal.invariant-loop-first
invariant-loop-first l = bytes_cmp l.value l.other ≡ bytes_cmp l.left l.right

abbrev pub decreases-loop-first : goal.decreases-loop-first
decreases-loop-first l = length l.left
