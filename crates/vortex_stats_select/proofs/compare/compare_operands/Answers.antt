use Rattle.std.proofs.Common.{◌≡◌, ◌∙◌, ap, sym, subst, length, map, replicate}
use Rattle.std.specs.List.{zip}
use Rattle.std.proofs.lemmas.Result.{IfOk-weaker}
use Rattle.vortex_model.specs.Content.{content_of}
use Rattle.vortex_model_table.specs.Truth.{compared, is_true}
use Rattle.vortex_scalar_value.specs.View.{content_at, content_in}
use Rattle.vortex_stats_expr.specs.Tree.{comparison_of}
use Rattle.vortex_stats_select.specs.Coded.{value_of_code}
use Rattle.vortex_stats_select.specs.Leaves.{leaf_rows}
use Rattle.vortex_stats_select.specs.Operands.{operand_rows}
use Rattle.vortex_stats_select.proofs.OperandLemmas.{column_with_value, value_with_column, value_with_value, lent}
use Rattle.vortex_stats_select.proofs.compare.compare_operands.Goals as goal

pub returns-in-Column-Column : goal.returns-in-Column-Column
returns-in-Column-Column c =
    let op = comparison_of c.args.comparison in let n = c.args.len in
    c.told.ensures _ (IfOk-weaker c.compare_columns.result _ _ (λ mask is. is
    ∙ (λ i. map (λ p. is_true (compared op p.0 p.1)) (zip (c.as_column.ensures i) (c.as_column-in-Column-Column.ensures i)))
    ∙ (λ i. map (λ p. is_true (compared op p.0 p.1)) (zip (operand_rows (sym c.in-Column-Column.is-0 i) n) (operand_rows (sym c.in-Column-Column.is-1 i) n)))) c.compare_columns.ensures)

pub returns-in-Column-Value : goal.returns-in-Column-Value
returns-in-Column-Value c =
    let op = comparison_of c.args.comparison in let n = c.args.len in
    let x = c.in-Column-Value.x in let y = c.in-Column-Value.y in
    let said : content_at c.as_ref.result ≡ content_in y = ap content_of (lent y c.as_ref.result c.as_ref.ensures.value) in
    c.told-in-Column-Value.ensures _ (IfOk-weaker c.compare_literal.result _ _ (λ mask is. is
    ∙ (λ i. map (λ d. is_true (compared op d (said i))) (c.as_column-in-Column-Value.ensures i))
    ∙ column_with_value op n (leaf_rows x) (content_in y) (subst (λ o. length (operand_rows o n) ≡ n) c.in-Column-Value.is-0 c.requires.left)
    ∙ (λ i. map (λ p. is_true (compared op p.0 p.1)) (zip (operand_rows (sym c.in-Column-Value.is-0 i) n) (operand_rows (sym c.in-Column-Value.is-1 i) n)))) c.compare_literal.ensures)

pub returns-in-Value-Column : goal.returns-in-Value-Column
returns-in-Value-Column c =
    let op = comparison_of c.args.comparison in let n = c.args.len in
    let x = c.in-Value-Column.x in let y = c.in-Value-Column.y in
    let said : content_at c.as_ref-in-Value-Column.result ≡ content_in x = ap content_of (lent x c.as_ref-in-Value-Column.result c.as_ref-in-Value-Column.ensures.value) in
    c.told-in-Value-Column.ensures _ (IfOk-weaker c.compare_literal-in-Value-Column.result _ _ (λ mask is. is
    ∙ (λ i. map (λ d. is_true (compared (c.swapped.ensures i) d (said i))) (c.as_column-in-Value-Column.ensures i))
    ∙ value_with_column op n (content_in x) (leaf_rows y) (subst (λ o. length (operand_rows o n) ≡ n) c.in-Value-Column.is-1 c.requires.right)
    ∙ (λ i. map (λ p. is_true (compared op p.0 p.1)) (zip (operand_rows (sym c.in-Value-Column.is-0 i) n) (operand_rows (sym c.in-Value-Column.is-1 i) n)))) c.compare_literal-in-Value-Column.ensures)

pub returns-in-Value-Value : goal.returns-in-Value-Value
returns-in-Value-Value c =
    let op = comparison_of c.args.comparison in let n = c.args.len in
    let x = c.in-Value-Value.x in let y = c.in-Value-Value.y in
    let left : content_at c.as_ref-in-Value-Value.result ≡ content_in x = ap content_of (lent x c.as_ref-in-Value-Value.result c.as_ref-in-Value-Value.ensures.value) in
    let right : content_at c.as_ref-in-Value-Value-2.result ≡ content_in y = ap content_of (lent y c.as_ref-in-Value-Value-2.result c.as_ref-in-Value-Value-2.ensures.value) in
    c.told-in-Value-Value.ensures _ (IfOk-weaker c.compare_constants.result _ _ (λ mask is. is
    ∙ (λ i. replicate n (is_true (compared op (left i) (right i))))
    ∙ value_with_value op n (content_in x) (content_in y)
    ∙ (λ i. map (λ p. is_true (compared op p.0 p.1)) (zip (operand_rows (sym c.in-Value-Value.is-0 i) n) (operand_rows (sym c.in-Value-Value.is-1 i) n)))) c.compare_constants.ensures)

pub returns-in-Dictionary-Value : goal.returns-in-Dictionary-Value
returns-in-Dictionary-Value c =
    let op = comparison_of c.args.comparison in let n = c.args.len in let y = c.in-Dictionary-Value.y in
    let rows = map (value_of_code (leaf_rows c.in-Dictionary-Value.values)) (leaf_rows c.in-Dictionary-Value.codes) in
    let said : content_at c.as_ref-in-Dictionary-Value.result ≡ content_in y = ap content_of (lent y c.as_ref-in-Dictionary-Value.result c.as_ref-in-Dictionary-Value.ensures.value) in
    c.told-in-Dictionary-Value.ensures _ (IfOk-weaker c.compare_coded-in-Dictionary-Value.result _ _ (λ mask is. is
    ∙ (λ i. map (λ d. is_true (compared op d (said i))) rows)
    ∙ column_with_value op n rows (content_in y) (subst (λ o. length (operand_rows o n) ≡ n) c.in-Dictionary-Value.is-0 c.requires.left)
    ∙ (λ i. map (λ p. is_true (compared op p.0 p.1)) (zip (operand_rows (sym c.in-Dictionary-Value.is-0 i) n) (operand_rows (sym c.in-Dictionary-Value.is-1 i) n)))) c.compare_coded-in-Dictionary-Value.ensures)

pub returns-in-Value-Dictionary : goal.returns-in-Value-Dictionary
returns-in-Value-Dictionary c =
    let op = comparison_of c.args.comparison in let n = c.args.len in let x = c.in-Value-Dictionary.x in
    let rows = map (value_of_code (leaf_rows c.in-Value-Dictionary.values)) (leaf_rows c.in-Value-Dictionary.codes) in
    let said : content_at c.as_ref-in-Value-Dictionary.result ≡ content_in x = ap content_of (lent x c.as_ref-in-Value-Dictionary.result c.as_ref-in-Value-Dictionary.ensures.value) in
    c.told-in-Value-Dictionary.ensures _ (IfOk-weaker c.compare_coded.result _ _ (λ mask is. is
    ∙ (λ i. map (λ d. is_true (compared (c.swapped-in-Value-Dictionary.ensures i) d (said i))) rows)
    ∙ value_with_column op n (content_in x) rows (subst (λ o. length (operand_rows o n) ≡ n) c.in-Value-Dictionary.is-1 c.requires.right)
    ∙ (λ i. map (λ p. is_true (compared op p.0 p.1)) (zip (operand_rows (sym c.in-Value-Dictionary.is-0 i) n) (operand_rows (sym c.in-Value-Dictionary.is-1 i) n)))) c.compare_coded.ensures)
