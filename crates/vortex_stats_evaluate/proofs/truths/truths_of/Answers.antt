use Rattle.std.proofs.Common.{◌∙◌}
use Rattle.std.proofs.lemmas.Result.{IfOk-weaker}
use Rattle.vortex_arrays_model.specs.Layout.{rows_of}
use Rattle.vortex_stats_evaluate.proofs.RowTruths.{by_masks}
use Rattle.vortex_stats_evaluate.proofs.truths.truths_of.Goals as goal

pub returns : goal.returns
returns c =
    IfOk-weaker c.pair_masks.result _ _ (λ truths h. by_masks c.args.rows c.args.e.now
    (rows_of c.args.array.now) c.deref.result.now c.deref-2.result.now truths.items
    (c.deref.ensures.value ∙ c.in_ok-yes.ensures) (c.deref-2.ensures.value ∙ c.in_ok-no.ensures) h)
    c.pair_masks.ensures
