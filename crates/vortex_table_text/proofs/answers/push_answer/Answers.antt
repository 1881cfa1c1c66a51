use Rattle.std.proofs.Common.{◌++◌, false, map, ap, ◌∙◌}
use Rattle.vortex_scalar_core.specs.Scalar.{scalar_content}
use Rattle.vortex_table_response.specs.Text.{rows_text, scan_end_text}
use Rattle.vortex_table_response.proofs.Pieces.{three_in_order}
use Rattle.vortex_table_text.proofs.answers.push_answer.Goals as goal

pub returns : goal.returns
returns c =
    let answer = c.args.answer.now in
    let rows = c.in_ok-push_rows.ensures
    ∙ ap (λ rs. c.push_scan_front.new.out.items ++ rows_text false (map scalar_content rs)) c.deref.ensures.value in
    let behind = c.in_ok-push_scan_end.ensures
    ∙ (λ j. c.push_rows.new.out.items ++ scan_end_text answer.rows_tested (c.deref-2.ensures.value j) (c.deref-3.ensures.value j)) in
    three_in_order c.args.out.now.items _ _ _ _ _ _ c.in_ok-push_scan_front.ensures rows behind
