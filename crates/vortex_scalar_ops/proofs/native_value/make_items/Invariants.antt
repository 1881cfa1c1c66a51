use Rattle.std.proofs.Common.{◌≡◌, ◌++◌, map, true}
use Rattle.std.specs.Vec.Iter.{into_iter_items}
use Rattle.vortex_model.specs.Valid.{all_have}
use Rattle.vortex_scalar_value.specs.View.{raw_in, raws_in}
use Rattle.vortex_scalar_ops.proofs.native_value.make_items.Given as goal

abbrev pub invariant-loop-value : goal.invariant-loop-value
invariant-loop-value g l = record {
  made : map raw_in l.items.items ++ map g.T.NativeValue.raw (into_iter_items l.value-iterator) ≡ map g.T.NativeValue.raw l.fn.values.items;
  valid : all_have g.T.NativeDType.values (raws_in l.items.items) ≡ true;
}
