use Rattle.std.proofs.Common.{◌≡◌, ap, sym, ◌∙◌}
use Rattle.std.proofs.lemmas.Result.{on_ok_weaker}
use Rattle.vortex_arrays_model.specs.Layout.{strings}
use Rattle.vortex_arrays_core.specs.LayoutOf.{layout_of, valid_of, strings_of}
use Rattle.vortex_table_schema.specs.Cut.{tree_of}
use Rattle.vortex_table_select.specs.Lists.{with_each, lists_of, cut_values}
use Rattle.vortex_table_select.proofs.CutRows.{cut_strings}
use Rattle.vortex_table_select.proofs.column.push_column.Goals as goal

pub returns-in-VarBinView : goal.returns-in-VarBinView
returns-in-VarBinView c =
    let t = tree_of c.args.projection.now in let rows = c.args.rows.now in
    let s = strings_of c.in-VarBinView.kind in let v = valid_of c.in-VarBinView.validity in
    let vs = c.as_slice.result.now in let bs = c.as_slice-in-VarBinView.result.now in
    let held : strings s vs bs v ≡ c.args.column.now
    = (λ j. strings s (c.as_slice.ensures j) ((c.as_slice-in-VarBinView.ensures.value ∙ ap (λ x. x.items) c.deref.ensures) j) v) ∙ ap layout_of (sym c.in-VarBinView.is) ∙ c.layout.ensures.layout in
    on_ok_weaker c.push_strings.result (λ e. e ∙ ap (with_each (lists_of c.args.lists.now)) (sym (cut_strings t s vs bs v rows) ∙ ap (λ a. cut_values t a rows) held)) c.push_strings.ensures
