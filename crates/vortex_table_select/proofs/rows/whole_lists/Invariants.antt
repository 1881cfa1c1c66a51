use Rattle.std.proofs.Common.{◌≡◌, map, take}
use Rattle.vortex_table_select.specs.Lists.{lists_of, fields_at}
use Rattle.vortex_table_select.proofs.rows.whole_lists.Given as goal

abbrev pub invariant-loop-column : goal.invariant-loop-column
invariant-loop-column l = lists_of l.lists.items ≡ map (fields_at (take l.column-index l.columns)) l.rows
