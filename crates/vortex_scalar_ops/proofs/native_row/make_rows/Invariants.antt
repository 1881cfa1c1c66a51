use Rattle.std.proofs.Common.{◌≡◌, ◌++◌, map, true}
use Rattle.std.specs.Vec.Iter.{into_iter_items}
use Rattle.vortex_model.specs.LogicalType.{Fields, struct, non_nullable}
use Rattle.vortex_model.specs.Content.{raw_tuple}
use Rattle.vortex_model.specs.Valid.{all_have}
use Rattle.vortex_dtype_fields.specs.Records.{types_of}
use Rattle.vortex_scalar_value.specs.View.{raw_in, raws_in, raws_from}
use Rattle.vortex_scalar_ops.proofs.native_row.make_rows.Given as goal

abbrev pub invariant-loop-fields : goal.invariant-loop-fields
invariant-loop-fields g l = record {
  made :
      map raw_in l.made.items ++ map (λ r. raw_tuple (raws_from (g.R.NativeRow.raws r))) (into_iter_items l.fields-iterator)
      ≡ map (λ r. raw_tuple (raws_from (g.R.NativeRow.raws r))) l.fn.rows.items;
  valid : (fs : Fields) → types_of fs ≡ g.R.NativeRow.types → all_have (struct fs non_nullable) (raws_in l.made.items) ≡ true;
}
