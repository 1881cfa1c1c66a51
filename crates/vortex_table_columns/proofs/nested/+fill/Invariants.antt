use Rattle.std.proofs.Common.{◌≡◌, List, length}
use Rattle.vortex_model.specs.Content.{Raw}
use Rattle.vortex_table_columns.specs.Nested.{column_of, GainsAll}
use Rattle.vortex_table_columns.proofs.NestedLemmas.{ColumnsGained}
use Rattle.vortex_table_columns.proofs.nested.+fill.Given as goal

abbrev pub decreases-fill : goal.decreases-fill
decreases-fill l = l.depth

abbrev pub decreases-fill_all : goal.decreases-fill_all
decreases-fill_all l = l.depth

abbrev pub decreases-fill_times : goal.decreases-fill_times
decreases-fill_times l = l.depth

abbrev pub invariant-fill_all-loop-i : goal.invariant-fill_all-loop-i
invariant-fill_all-loop-i l = (cells : List Raw) × ColumnsGained l.initial.columns.items l.i l.columns.items cells

abbrev pub invariant-fill_times-loop : goal.invariant-fill_times-loop
invariant-fill_times-loop l = (cells : List Raw) × (length cells ≡ l.counter) × GainsAll (column_of l.initial.column) cells (column_of l.column)
