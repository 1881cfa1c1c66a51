use Rattle.std.proofs.Common.{◌≡◌, ◌∙◌, ap, subst, map, length}
use Rattle.std.specs.Prelude.{IfSome}
use Rattle.std.proofs.lemmas.Result.{IfOk-weaker}
use Rattle.vortex_model.specs.Content.{Content}
use Rattle.vortex_model.proofs.Lists.{map_twice}
use Rattle.vortex_model_table.specs.Truth.{compared}
use Rattle.vortex_scalar_value.specs.View.{content_at}
use Rattle.vortex_stats_expr.specs.Tree.{comparison_of}
use Rattle.vortex_stats_mask.specs.Wanted.{is_wanted}
use Rattle.vortex_stats_select.specs.Operands.{operand_rows}
use Rattle.vortex_stats_select.specs.Wants.{value_at}
use Rattle.vortex_stats_select.proofs.select.literal_comparison.Goals as goal

pub returns-in-Some : goal.returns-in-Some
returns-in-Some g c =
    let rows = g.S.Columns.rows c.args.columns.now in
    let test = λ (d : Content). is_wanted c.args.want (compared (comparison_of c.args.comparison) d (content_at c.args.literal)) in
    c.told.ensures _ (IfOk-weaker c.compare_wanted.result _ _ (λ mask is. is ∙ ap (map test) c.in-Some.ensures
    ∙ map_twice test (value_at c.args.input.now) rows) c.compare_wanted.ensures)

pub returns : goal.returns
returns g c =
    let rows = g.S.Columns.rows c.args.columns.now in let operand = c.in-Some-2.operand in let x = c.args.input.now in
    let test = λ (d : Content). is_wanted c.args.want (compared (comparison_of c.args.comparison) d (content_at c.args.literal)) in
    let read = subst (λ o. IfSome o (λ operand. operand_rows operand (length rows) ≡ map (value_at x) rows)) c.in-Some-2.is c.in_ok-operand.ensures in
    c.in_ok-mask.ensures ∙ ap (map test) (ap (operand_rows operand) c.len.ensures ∙ read) ∙ map_twice test (value_at x) rows
