use Rattle.std.proofs.Common.{◌≡◌, length, map, take}
use Rattle.vortex_dtype_core.specs.View as types
use Rattle.vortex_arrays_model.specs.Layout.{array_type_of}
use Rattle.vortex_arrays_core.proofs.make.field_dtypes.Given as goal

abbrev pub invariant-loop-field : goal.invariant-loop-field
invariant-loop-field l = record {
  kinds : map types.type_of l.dtypes.items ≡ map array_type_of (take l.field-index l.fields);
  count : length l.dtypes.items ≡ l.field-index;
}
