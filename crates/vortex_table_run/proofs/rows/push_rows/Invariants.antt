use Rattle.std.proofs.Common.{◌≡◌, ◌++◌, drop, map}
use Rattle.vortex_arrays_model.specs.Layout.{content_at}
use Rattle.vortex_table_schema.specs.Cut.{content_cut, tree_of}
use Rattle.vortex_table_response.specs.Text.{rows_text}
use Rattle.vortex_table_run.proofs.rows.push_rows.Given as goal

-- what is written, and the string of the rest, is the string of all
abbrev pub invariant-loop-row : goal.invariant-loop-row
invariant-loop-row l =
    l.out.items ++ rows_text l.later (map (content_cut (tree_of l.projection)) (map (content_at l.array) (drop l.row-index l.rows)))
    ≡ l.fn.out.items ++ rows_text l.fn.later (map (content_cut (tree_of l.projection)) (map (content_at l.array) l.rows))
