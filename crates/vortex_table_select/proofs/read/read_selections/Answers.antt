use Rattle.std.proofs.Common.{ap, ◌∙◌, ◌++◌, map}
use Rattle.vortex_scalar_core.specs.Scalar.{scalar_content}
use Rattle.vortex_arrays_model.specs.Layout.{content_at}
use Rattle.vortex_table_select.specs.Selected.{cut_rows, rows_in}
use Rattle.vortex_table_select.proofs.Taken.{read_more}
use Rattle.vortex_table_select.proofs.read.read_selections.Goals as goal

pub loop-selection-preserved : goal.loop-selection-preserved
loop-selection-preserved c =
    let cut = c.args.cut.now in let at = c.loop-selection in let s = c.selection-item.result in
    let old = map scalar_content at.found.items in
    record {
      content =
          read_more cut c.args.selections.now at.selection-index s old _ (cut_rows cut (rows_in c.args.selections.now)) c.loop-selection-test.true c.selection-item.is
          (c.in_ok-push_rows.ensures.content ∙ ap (λ rows. old ++ cut_rows cut (map (content_at s.array) rows)) c.deref.ensures.value)
          at.invariant.content;
      kind = c.in_ok-push_rows.ensures.kind;
    }
