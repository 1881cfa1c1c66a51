use Rattle.std.proofs.Common.{◌≡◌, ◌≤◌}
use Rattle.vortex_arrays_model.specs.Layout.{by_array}
use Rattle.vortex_arrays_builder.specs.Integers.{valid_before}
use Rattle.vortex_arrays_builder.proofs.integers.count_by_row.Given as goal

abbrev pub invariant-loop-i : goal.invariant-loop-i
invariant-loop-i l = record {
  counted : l.count ≡ valid_before (by_array l.rows) l.i;
  small : l.count ≤ l.i;
}
