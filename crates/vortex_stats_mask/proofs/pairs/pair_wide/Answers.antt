use Rattle.std.proofs.Common.{◌∙◌, map}
use Rattle.std.specs.List.{zip}
use Rattle.std.specs.Ordering.{int_cmp}
use Rattle.std.proofs.lemmas.Result.{IfOk-weaker}
use Rattle.vortex_model_table.specs.Truth.{test_of}
use Rattle.vortex_stats_expr.specs.Tree.{comparison_of}
use Rattle.vortex_stats_mask.proofs.pairs.pair_wide.Goals as goal

pub returns : goal.returns
returns c =
    let op = comparison_of c.args.comparison in
    IfOk-weaker c.compare_wide.result _ _ (λ mask is. is
    ∙ (λ i. map (λ p. test_of op (int_cmp p.0 p.1)) (zip ((c.deref.ensures.value ∙ c.in_ok-xs.ensures) i) ((c.deref-2.ensures.value ∙ c.in_ok-ys.ensures) i)))) c.compare_wide.ensures
