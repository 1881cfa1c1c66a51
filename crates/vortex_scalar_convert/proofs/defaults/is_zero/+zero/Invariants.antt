use Rattle.std.proofs.Common.{◌≡◌, suc, drop, length}
use Rattle.vortex_dtype_core.specs.View.{type_of, fields_of}
use Rattle.vortex_scalar_value.specs.Parts.{child_in}
use Rattle.vortex_scalar_value.specs.View.{raw_at, raws_in, raw_of_union}
use Rattle.vortex_scalar_value.proofs.Sizes.{raw_size, raws_size}
use Rattle.vortex_scalar_convert.specs.defaults.Zero.{are_zero, fields_are_zero}
use Rattle.vortex_scalar_convert.proofs.defaults.is_zero.+zero.Given as goal

abbrev pub decreases-is_zero_value : goal.decreases-is_zero_value
decreases-is_zero_value l = raw_size (raw_at l.value)

abbrev pub decreases-is_zero_union : goal.decreases-is_zero_union
decreases-is_zero_union l = suc (raw_size (child_in (raw_of_union l.union.now)))

abbrev pub decreases-is_zero_tuple : goal.decreases-is_zero_tuple
decreases-is_zero_tuple l = suc (raws_size (raws_in l.items.now))

abbrev pub decreases-are_zero : goal.decreases-are_zero
decreases-are_zero l = raws_size (raws_in l.items.now)

abbrev pub decreases-fields_are_zero : goal.decreases-fields_are_zero
decreases-fields_are_zero l = raws_size (raws_in l.items.now)

abbrev pub invariant-are_zero-loop-item : goal.invariant-are_zero-loop-item
invariant-are_zero-loop-item l = are_zero (type_of l.element) (raws_in (drop l.item-index l.items)) ≡ are_zero (type_of l.element) (raws_in l.items)

abbrev pub invariant-fields_are_zero-loop-i : goal.invariant-fields_are_zero-loop-i
invariant-fields_are_zero-loop-i l = record {
  eq_length : length l.fields ≡ length l.items;
  left : fields_are_zero (fields_of (drop l.i l.fields)) (raws_in (drop l.i l.items)) ≡ fields_are_zero (fields_of l.fields) (raws_in l.items);
}
