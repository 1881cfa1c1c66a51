use Rattle.std.proofs.Common.{◌≡◌, suc, drop, length}
use Rattle.vortex_model.specs.Valid.{all_have, entries_have, fields_have}
use Rattle.vortex_dtype_core.specs.View.{type_of, fields_of}
use Rattle.vortex_scalar_value.specs.Parts.{child_in}
use Rattle.vortex_scalar_value.specs.View.{raw_at, raws_in, raw_of_union, raw_of_variant}
use Rattle.vortex_scalar_value.proofs.Sizes.{raw_size, raws_size}
use Rattle.vortex_scalar_ops.proofs.validate.+validate.Given as goal

abbrev pub decreases-validate : goal.decreases-validate
decreases-validate l = raw_size (raw_at l.value)

abbrev pub decreases-validate_union : goal.decreases-validate_union
decreases-validate_union l = suc (raw_size (child_in (raw_of_union l.union.now)))

abbrev pub decreases-validate_variant : goal.decreases-validate_variant
decreases-validate_variant l = suc (raw_size (child_in (raw_of_variant l.variant.now)))

abbrev pub decreases-validate_tuple : goal.decreases-validate_tuple
decreases-validate_tuple l = suc (raws_size (raws_in l.items.now))

abbrev pub decreases-validate_items : goal.decreases-validate_items
decreases-validate_items l = raws_size (raws_in l.items.now)

abbrev pub decreases-validate_entries : goal.decreases-validate_entries
decreases-validate_entries l = raws_size (raws_in l.items.now)

abbrev pub decreases-validate_entry : goal.decreases-validate_entry
decreases-validate_entry l = raw_size (raw_at l.entry)

abbrev pub decreases-validate_fields : goal.decreases-validate_fields
decreases-validate_fields l = raws_size (raws_in l.items.now)

abbrev pub invariant-validate_items-loop-item : goal.invariant-validate_items-loop-item
invariant-validate_items-loop-item l = all_have (type_of l.element) (raws_in (drop l.item-index l.items)) ≡ all_have (type_of l.element) (raws_in l.items)

abbrev pub invariant-validate_entries-loop-entry : goal.invariant-validate_entries-loop-entry
invariant-validate_entries-loop-entry l = entries_have (type_of l.key) (type_of l.value) (raws_in (drop l.entry-index l.items)) ≡ entries_have (type_of l.key) (type_of l.value) (raws_in l.items)

abbrev pub invariant-validate_fields-loop-i : goal.invariant-validate_fields-loop-i
invariant-validate_fields-loop-i l = record {
  eq_length : length l.fields ≡ length l.items;
  left : fields_have (fields_of (drop l.i l.fields)) (raws_in (drop l.i l.items)) ≡ fields_have (fields_of l.fields) (raws_in l.items);
}
