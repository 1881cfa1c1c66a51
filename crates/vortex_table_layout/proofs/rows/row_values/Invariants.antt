use Rattle.std.proofs.Common.{◌≡◌, true, map, take}
use Rattle.std.specs.List.{All}
use Rattle.vortex_model.specs.Valid.{valid}
use Rattle.vortex_scalar_value.specs.View.{raw_in, content_in}
use Rattle.vortex_arrays_model.specs.Layout.{array_type_of, rows_of}
use Rattle.vortex_table_layout.proofs.rows.row_values.Given as goal

abbrev pub invariant-loop-i : goal.invariant-loop-i
invariant-loop-i l = record {
  rows : map content_in l.rows.items ≡ take l.i (rows_of l.array);
  valid : All (λ row. valid (array_type_of l.array) (raw_in row) ≡ true) l.rows.items;
}
