use Rattle.std.proofs.Common.{◌++◌, false, map, ap, sym, ◌∙◌}
use Rattle.vortex_table_schema.specs.Cut.{tree_of, content_cut}
use Rattle.vortex_table_select.specs.Selected.{rows_in}
use Rattle.vortex_table_response.specs.Text.{rows_text}
use Rattle.vortex_table_run.specs.Order.{is_later}
use Rattle.vortex_table_run.proofs.Written.{selection_more}
use Rattle.vortex_table_run.proofs.scan.push_selections.Goals as goal

pub loop-selection-preserved : goal.loop-selection-preserved
loop-selection-preserved c =
    let keep = content_cut (tree_of c.args.projection.now) in let at = c.loop-selection in
    selection_more keep c.args.selections.now at.selection-index c.selection-item.result c.deref.result.now at.later c.is_later-later.result at.out.items c.push_rows.new.out.items
    (c.args.out.now.items ++ rows_text false (map keep (rows_in c.args.selections.now)))
    c.loop-selection-test.true c.selection-item.is c.deref.ensures.value
    (c.is_later-later.ensures ∙ ap (is_later at.later) (c.deref-in-loop-selection.ensures.value ∙ sym c.deref.ensures.value))
    c.in_ok-push_rows.ensures at.invariant
