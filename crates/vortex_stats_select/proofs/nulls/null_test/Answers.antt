use Rattle.std.proofs.Common.{◌≡◌, ◌∙◌, subst}
use Rattle.std.specs.Prelude.{IfSome}
use Rattle.std.proofs.lemmas.Result.{IfOk-weaker}
use Rattle.vortex_arrays_model.specs.Layout.{rows_of}
use Rattle.vortex_stats_mask.specs.Columns.{column_of}
use Rattle.vortex_stats_select.proofs.WantLemmas.{nulls_wanted}
use Rattle.vortex_stats_select.specs.Wants.{values_in}
use Rattle.vortex_stats_select.proofs.nulls.null_test.Goals as goal

pub returns-in-Some-leaf : goal.returns-in-Some-leaf
returns-in-Some-leaf g c =
    let rows = g.S.Columns.rows c.args.columns.now in let path = c.in-Some.path.now in
    c.told.ensures _ (IfOk-weaker c.test_lent.result _ _ (λ mask is. is
    ∙ nulls_wanted c.args.want c.args.input.now path rows (column_of c.in-Some-leaf.column) c.in-Some.ensures.path c.in-Some-leaf.ensures) c.test_lent.ensures)

pub returns : goal.returns
returns g c =
    let rows = g.S.Columns.rows c.args.columns.now in let path = c.in-Some.path.now in
    let made = subst (λ o. IfSome o (λ column. rows_of column ≡ values_in path rows)) c.in-Some-2.is c.in_ok-column.ensures in
    c.in_ok-mask.ensures ∙ nulls_wanted c.args.want c.args.input.now path rows (rows_of c.in-Some-2.column) c.in-Some.ensures.path made
