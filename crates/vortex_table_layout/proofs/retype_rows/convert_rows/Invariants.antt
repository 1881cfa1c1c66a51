use Rattle.std.proofs.Common.{◌≡◌, ◌+◌, map, take, drop, IsTrue}
use Rattle.std.specs.List.{list_all}
use Rattle.vortex_model.specs.Valid.{valid}
use Rattle.vortex_model_table.specs.Command.{first_unconvertible}
use Rattle.vortex_arrays_model.specs.Layout.{array_type_of, rows_of}
use Rattle.vortex_dtype_core.specs.View.{type_of}
use Rattle.vortex_scalar_value.specs.View.{raw_of}
use Rattle.vortex_table_schema.specs.Rows.{row_content}
use Rattle.vortex_table_layout.proofs.retype_rows.convert_rows.Given as goal

abbrev pub invariant-loop-index : goal.invariant-loop-index
invariant-loop-index l = record {
  content : map row_content l.converted.items ≡ take l.index (rows_of l.array);
  valid : IsTrue (list_all (λ row. valid (type_of l.target) (raw_of row)) l.converted.items);
  left : first_unconvertible (l.first + l.index) (array_type_of l.array) (type_of l.target) (drop l.index (rows_of l.array))
      ≡ first_unconvertible l.first (array_type_of l.array) (type_of l.target) (rows_of l.array);
}
