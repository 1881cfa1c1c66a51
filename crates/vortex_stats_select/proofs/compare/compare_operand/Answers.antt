use Rattle.std.proofs.Common.{◌≡◌, ◌∙◌, ap, sym, map, replicate}
use Rattle.std.proofs.lemmas.Result.{IfOk-weaker}
use Rattle.vortex_model.specs.Content.{Content, content_of}
use Rattle.vortex_model_table.specs.Truth.{compared, is_true}
use Rattle.vortex_scalar_value.specs.View.{content_at, content_in}
use Rattle.vortex_stats_expr.specs.Tree.{comparison_of}
use Rattle.vortex_stats_select.specs.Operands.{operand_rows}
use Rattle.vortex_stats_select.proofs.OperandLemmas.{lent, tested_alike}
use Rattle.vortex_stats_select.proofs.compare.compare_operand.Goals as goal

pub returns-in-Column : goal.returns-in-Column
returns-in-Column c =
    let test = λ (d : Content). is_true (compared (comparison_of c.args.comparison) d (content_at c.args.literal)) in let n = c.args.len in
    IfOk-weaker c.compare_literal.result _ _ (λ mask is. is ∙ ap (map test) c.as_column.ensures
    ∙ (λ i. map test (operand_rows (sym c.in-Column.is i) n))) c.compare_literal.ensures

pub returns-in-Value : goal.returns-in-Value
returns-in-Value c =
    let test = λ (d : Content). is_true (compared (comparison_of c.args.comparison) d (content_at c.args.literal)) in let n = c.args.len in
    let x = c.in-Value.x in
    let said : content_at c.as_ref.result ≡ content_in x = ap content_of (lent x c.as_ref.result c.as_ref.ensures.value) in
    IfOk-weaker c.compare_constants.result _ _ (λ mask is. is ∙ ap (λ d. replicate n (test d)) said ∙ tested_alike test (content_in x) n
    ∙ (λ i. map test (operand_rows (sym c.in-Value.is i) n))) c.compare_constants.ensures

pub returns-in-Dictionary : goal.returns-in-Dictionary
returns-in-Dictionary c =
    let test = λ (d : Content). is_true (compared (comparison_of c.args.comparison) d (content_at c.args.literal)) in let n = c.args.len in
    IfOk-weaker c.compare_coded.result _ _ (λ mask is. is ∙ (λ i. map test (operand_rows (sym c.in-Dictionary.is i) n))) c.compare_coded.ensures
