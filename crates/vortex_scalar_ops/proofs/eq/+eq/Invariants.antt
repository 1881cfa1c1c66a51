use Rattle.std.proofs.Common.{◌≡◌, ◌+◌, ◌*◌, length, drop}
use Rattle.vortex_scalar_value.specs.Parts.{child_in}
use Rattle.vortex_scalar_value.specs.View.{raw_of, raw_of_union, raw_of_variant, raw_at, raws_in}
use Rattle.vortex_scalar_value.proofs.Sizes.{raw_size, raws_size}
use Rattle.vortex_scalar_ops.proofs.Items.{items_same}
use Rattle.vortex_scalar_ops.proofs.eq.+eq.Given as goal

abbrev pub decreases-eq_items : goal.decreases-eq_items
decreases-eq_items l = 2 * raws_size (raws_in l.left.now) + 2

abbrev pub decreases-eq_present : goal.decreases-eq_present
decreases-eq_present l = 2 * raw_size (raw_of l.left.now)

abbrev pub decreases-eq_unions : goal.decreases-eq_unions
decreases-eq_unions l = 2 * raw_size (child_in (raw_of_union l.left.now)) + 2

abbrev pub decreases-eq_values : goal.decreases-eq_values
decreases-eq_values l = 2 * raw_size (raw_at l.left) + 1

abbrev pub decreases-eq_variants : goal.decreases-eq_variants
decreases-eq_variants l = 2 * raw_size (child_in (raw_of_variant l.left.now)) + 2

abbrev pub invariant-eq_items-loop-i : goal.invariant-eq_items-loop-i
invariant-eq_items-loop-i l = record {
  eq_length : length l.left ≡ length l.right;
  left : items_same (drop l.i l.left) (drop l.i l.right) ≡ items_same l.left l.right;
}
