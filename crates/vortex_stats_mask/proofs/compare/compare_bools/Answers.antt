use Rattle.std.proofs.Common.{sym, ◌∙◌, replicate, false, ap, length}
use Rattle.std.proofs.lemmas.Result.{IfOk-weaker}
use Rattle.vortex_scalar_value.specs.View.{content_at}
use Rattle.vortex_stats_expr.specs.Tree.{comparison_of}
use Rattle.vortex_stats_mask.proofs.Comparing.{bools_by, bools_never}
use Rattle.vortex_stats_mask.proofs.compare.compare_bools.Goals as goal

pub returns-in-Some : goal.returns-in-Some
returns-in-Some c =
    let e = sym c.truth.ensures ∙ c.in-Some.is in
    IfOk-weaker c.test_bools.result _ _ (λ mask is. is ∙ sym (bools_by (comparison_of c.args.comparison) (content_at c.args.literal) _ e c.args.items.now)) c.test_bools.ensures

pub returns-in-None : goal.returns-in-None
returns-in-None c =
    let e = sym c.truth.ensures ∙ c.in-None.is in
    IfOk-weaker c.no_rows.result _ _ (λ mask is. is ∙ sym (bools_never (comparison_of c.args.comparison) (content_at c.args.literal) e c.args.items.now)) c.no_rows.ensures
