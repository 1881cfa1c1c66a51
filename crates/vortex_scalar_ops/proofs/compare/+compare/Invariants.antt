use Rattle.std.proofs.Common.{◌≡◌, ◌+◌, ◌*◌, drop}
use Rattle.vortex_scalar_value.specs.Parts.{child_in}
use Rattle.vortex_scalar_value.specs.View.{raw_of, raw_of_union, raw_at, raws_in}
use Rattle.vortex_scalar_value.proofs.Sizes.{raw_size, raws_size}
use Rattle.vortex_scalar_ops.proofs.Items.{items_cmp}
use Rattle.vortex_scalar_ops.proofs.compare.+compare.Given as goal

abbrev pub decreases-compare_items : goal.decreases-compare_items
decreases-compare_items l = 2 * raws_size (raws_in l.left.now) + 2

abbrev pub decreases-compare_present : goal.decreases-compare_present
decreases-compare_present l = 2 * raw_size (raw_of l.left.now)

abbrev pub decreases-compare_unions : goal.decreases-compare_unions
decreases-compare_unions l = 2 * raw_size (child_in (raw_of_union l.left.now)) + 2

abbrev pub decreases-compare_values : goal.decreases-compare_values
decreases-compare_values l = 2 * raw_size (raw_at l.left) + 1

abbrev pub invariant-compare_items-loop-i : goal.invariant-compare_items-loop-i
invariant-compare_items-loop-i l = items_cmp (drop l.i l.left) (drop l.i l.right) ≡ items_cmp l.left l.right
