use Rattle.std.proofs.Common.{◌++◌, false, map, ap, ◌∙◌}
use Rattle.vortex_table_schema.specs.Cut.{tree_of, content_cut}
use Rattle.vortex_table_select.specs.Selected.{rows_in}
use Rattle.vortex_table_response.specs.Text.{rows_text, scan_end_text}
use Rattle.vortex_table_response.proofs.Pieces.{three_in_order}
use Rattle.vortex_table_run.proofs.scan.push_scan.Goals as goal

pub returns : goal.returns
returns c =
    let answer = c.args.answer.now in
    let rows = c.in_ok-push_selections.ensures
    ∙ ap (λ ss. c.push_scan_front.new.out.items ++ rows_text false (map (content_cut (tree_of answer.cut.projection)) (rows_in ss))) c.deref.ensures.value in
    let behind = c.in_ok-push_scan_end.ensures
    ∙ (λ j. c.push_selections.new.out.items ++ scan_end_text answer.selection.rows_tested (c.deref-2.ensures.value j) (c.deref-3.ensures.value j)) in
    three_in_order c.args.out.now.items _ _ _ _ _ _ c.in_ok-push_scan_front.ensures rows behind
