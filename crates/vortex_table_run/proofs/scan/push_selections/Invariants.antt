use Rattle.std.proofs.Common.{◌≡◌, ◌++◌, false, map, drop}
use Rattle.vortex_table_schema.specs.Cut.{tree_of, content_cut}
use Rattle.vortex_table_select.specs.Selected.{rows_in}
use Rattle.vortex_table_response.specs.Text.{rows_text}
use Rattle.vortex_table_run.proofs.scan.push_selections.Given as goal

-- what is written, and the string of the rest, is the string of all
abbrev pub invariant-loop-selection : goal.invariant-loop-selection
invariant-loop-selection l =
    l.out.items ++ rows_text l.later (map (content_cut (tree_of l.projection)) (rows_in (drop l.selection-index l.selections)))
    ≡ l.fn.out.items ++ rows_text false (map (content_cut (tree_of l.projection)) (rows_in l.selections))
