use Rattle.std.proofs.Common.{◌≡◌, map, take}
use Rattle.vortex_table_schema.specs.Cut.{part_of_field}
use Rattle.vortex_table_select.specs.Lists.{lists_of, cut_lists}
use Rattle.vortex_table_select.proofs.rows.kept_lists.Given as goal

abbrev pub invariant-loop-field : goal.invariant-loop-field
invariant-loop-field l = lists_of l.lists.items ≡ map (cut_lists l.columns (map part_of_field (take l.field-index l.fields))) l.rows
