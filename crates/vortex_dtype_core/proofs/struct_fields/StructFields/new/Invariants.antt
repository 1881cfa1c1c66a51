use Rattle.std.proofs.Common.{◌≡◌, ◌+◌, ◌++◌, drop, length, map}
use Rattle.std.specs.List.{zip}
use Rattle.std.specs.Vec.Iter.{into_iter_items}
use Rattle.vortex_dtype_core.specs.View.{type_of, field_of}
use Rattle.vortex_dtype_core.proofs.struct_fields.StructFields.new.Given as goal

abbrev pub invariant-loop-dtype : goal.invariant-loop-dtype
invariant-loop-dtype l = record {
  many : length l.fields.items + length (into_iter_items l.dtype-iterator) ≡ length l.fn.dtypes.items;
  all : map field_of l.fields.items ++ zip (drop (length l.fields.items) l.fn.names) (map type_of (into_iter_items l.dtype-iterator)) ≡ zip l.fn.names (map type_of l.fn.dtypes.items);
}
