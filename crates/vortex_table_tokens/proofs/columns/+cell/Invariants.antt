use Rattle.std.proofs.Common.{◌+◌, ◌*◌, length}
use Rattle.vortex_table_columns.specs.Nested.{column_of}
use Rattle.vortex_table_tokens.proofs.ColumnLemmas.{RecordLeft, ListLeft}
use Rattle.vortex_table_tokens.proofs.columns.+cell.Given as goal

abbrev pub decreases-take_cell : goal.decreases-take_cell
decreases-take_cell l = 4 * l.depth + 1

abbrev pub decreases-take_nested : goal.decreases-take_nested
decreases-take_nested l = 4 * l.depth

abbrev pub decreases-take_inside : goal.decreases-take_inside
decreases-take_inside l = 4 * l.depth + 3

abbrev pub decreases-take_fields : goal.decreases-take_fields
decreases-take_fields l = 4 * l.depth + 2

abbrev pub decreases-take_items : goal.decreases-take_items
decreases-take_items l = 4 * l.depth + 2

abbrev pub invariant-take_fields-loop-i : goal.invariant-take_fields-loop-i
invariant-take_fields-loop-i l = RecordLeft l.depth l.initial.reader l.initial.columns.items l.i l.columns.items l.reader

abbrev pub invariant-take_items-items : goal.invariant-take_items-items
invariant-take_items-items l = ListLeft l.depth l.initial.reader (column_of l.initial.column) l.count (column_of l.column) l.reader

abbrev pub decreases-take_items-items : goal.decreases-take_items-items
decreases-take_items-items l = length l.reader
