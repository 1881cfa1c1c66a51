use Rattle.std.proofs.Common.{◌≡◌, suc, take, drop, length, map, true}
use Rattle.vortex_model.specs.Valid.{all_have, fields_have}
use Rattle.vortex_model.specs.Convert.{all_convert, fields_convert}
use Rattle.vortex_model.specs.Content.{contents_of}
use Rattle.vortex_dtype_core.specs.View.{type_of, fields_of}
use Rattle.vortex_scalar_value.specs.View.{raw_at, raws_in, content_in}
use Rattle.vortex_scalar_value.proofs.Sizes.{raw_size, raws_size}
use Rattle.vortex_scalar_ops.proofs.cast.+cast.Given as goal

abbrev pub decreases-convert_value : goal.decreases-convert_value
decreases-convert_value l = raw_size (raw_at l.value)

abbrev pub decreases-cast_tuple : goal.decreases-cast_tuple
decreases-cast_tuple l = suc (raws_size (raws_in l.items.now))

abbrev pub decreases-cast_items : goal.decreases-cast_items
decreases-cast_items l = raws_size (raws_in l.items.now)

abbrev pub decreases-cast_fields : goal.decreases-cast_fields
decreases-cast_fields l = raws_size (raws_in l.items.now)

abbrev pub invariant-cast_items-loop-item : goal.invariant-cast_items-loop-item
invariant-cast_items-loop-item l = record {
  content : map content_in l.all.items ≡ map content_in (take l.item-index l.items);
  valid : all_have (type_of l.target) (raws_in l.all.items) ≡ true;
  left : all_convert (type_of l.source) (type_of l.target) (contents_of (raws_in (drop l.item-index l.items)))
      ≡ all_convert (type_of l.source) (type_of l.target) (contents_of (raws_in l.items));
}

abbrev pub invariant-cast_fields-loop-i : goal.invariant-cast_fields-loop-i
invariant-cast_fields-loop-i l = record {
  eq_sources : length l.sources ≡ length l.items;
  eq_targets : length l.targets ≡ length l.items;
  content : map content_in l.all.items ≡ map content_in (take l.i l.items);
  valid : fields_have (fields_of (take l.i l.targets)) (raws_in l.all.items) ≡ true;
  left : fields_convert (fields_of (drop l.i l.sources)) (fields_of (drop l.i l.targets)) (contents_of (raws_in (drop l.i l.items)))
      ≡ fields_convert (fields_of l.sources) (fields_of l.targets) (contents_of (raws_in l.items));
}
