use Rattle.std.proofs.Common.{◌≡◌, map, take, drop}
use Rattle.vortex_model.specs.Content.{contents_of}
use Rattle.vortex_dtype_core.specs.View.{type_of}
use Rattle.vortex_scalar_value.specs.View.{raws_in, content_in}
use Rattle.vortex_scalar_convert.specs.Reading.{all_read}
use Rattle.vortex_scalar_convert.proofs.lists.read_items.Given as goal

abbrev pub invariant-loop-item : goal.invariant-loop-item
invariant-loop-item g l = record {
  said : map g.T.FromScalar.says l.all.items ≡ map content_in (take l.item-index l.items);
  left : all_read g.T.FromScalar.reads (type_of l.element) (contents_of (raws_in (drop l.item-index l.items)))
      ≡ all_read g.T.FromScalar.reads (type_of l.element) (contents_of (raws_in l.items));
}
