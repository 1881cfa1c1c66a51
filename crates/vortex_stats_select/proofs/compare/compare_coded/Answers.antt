use Rattle.std.proofs.Common.{◌≡◌, ◌∙◌, ap, subst, map}
use Rattle.std.specs.Prelude.{IfOk}
use Rattle.vortex_model.specs.Content.{Content}
use Rattle.vortex_model_table.specs.Truth.{compared, is_true}
use Rattle.vortex_scalar_value.specs.View.{content_at}
use Rattle.vortex_stats_expr.specs.Tree.{comparison_of}
use Rattle.vortex_stats_select.specs.Coded.{is_marked}
use Rattle.vortex_stats_select.specs.Leaves.{leaf_rows}
use Rattle.vortex_stats_select.proofs.CodedLemmas.{spread_is, null_compares}
use Rattle.vortex_stats_select.proofs.compare.compare_coded.Goals as goal

pub returns : goal.returns
returns c =
    let op = comparison_of c.args.comparison in let literal = content_at c.args.literal in let marks = c.deref.result.now in
    let test = λ (d : Content). is_true (compared op d literal) in
    subst (λ ms. IfOk c.spread.result (λ rows. rows.items ≡ ms))
    ((λ i. map (is_marked marks) (c.as_column-2.ensures i))
    ∙ spread_is test (null_compares op literal) marks (leaf_rows c.args.values.now) (leaf_rows c.args.codes.now) (c.deref.ensures.value ∙ c.in_ok-mask.ensures ∙ ap (map test) c.as_column.ensures))
    c.spread.ensures
