use Rattle.std.proofs.Common.{◌∙◌, ap, sym, map, not}
use Rattle.std.proofs.lemmas.Result.{IfOk-weaker}
use Rattle.vortex_model.specs.Content.{boolean, is_null}
use Rattle.vortex_stats_mask.specs.Columns.{column_of}
use Rattle.vortex_stats_mask.specs.Wanted.{is_wanted}
use Rattle.vortex_stats_select.proofs.NullLemmas.{absent}
use Rattle.vortex_stats_select.proofs.nulls.test_lent.Goals as goal

pub returns-then-want : goal.returns-then-want
returns-then-want c =
    let rows = column_of c.args.column.now in
    IfOk-weaker c.opposite.result _ _ (λ mask is. is ∙ ap (map not) (c.deref.ensures.value ∙ c.in_ok-mask.ensures) ∙ absent rows
    ∙ (λ i. map (λ d. is_wanted (sym c.if-want.true i) (boolean (is_null d))) rows)) c.opposite.ensures
