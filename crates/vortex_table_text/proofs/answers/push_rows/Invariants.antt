use Rattle.std.proofs.Common.{◌≡◌, ◌++◌, false, map, drop}
use Rattle.vortex_scalar_core.specs.Scalar.{scalar_content}
use Rattle.vortex_table_response.specs.Text.{rows_text}
use Rattle.vortex_table_text.proofs.answers.push_rows.Given as goal

-- what is written so far and the JSON of the rest are the JSON of all
abbrev pub invariant-loop-row : goal.invariant-loop-row
invariant-loop-row l =
    l.out.items ++ rows_text l.later (map scalar_content (drop l.row-index l.rows)) ≡ l.fn.out.items ++ rows_text false (map scalar_content l.rows)
