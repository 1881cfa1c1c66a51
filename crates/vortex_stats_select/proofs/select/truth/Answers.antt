use Rattle.std.proofs.Common.{◌≡◌, ◌∙◌, ap, subst, map, length, replicate, true}
use Rattle.std.specs.Prelude.{IfSome}
use Rattle.std.proofs.lemmas.Result.{IfOk-weaker}
use Rattle.std.specs.List.{zip}
use Rattle.vortex_model.specs.Content.{boolean, content_of}
use Rattle.vortex_model.proofs.Lists.{map_twice}
use Rattle.vortex_model_table.specs.Expression.{equal}
use Rattle.vortex_model_table.specs.Truth.{compared, is_true}
use Rattle.vortex_scalar_value.proofs.Views.{raw_of-Bool}
use Rattle.vortex_stats_mask.specs.Columns.{column_of}
use Rattle.vortex_stats_mask.specs.Wanted.{is_wanted}
use Rattle.vortex_stats_mask.proofs.Truths.{wanted_true}
use Rattle.vortex_stats_select.specs.Operands.{operand_rows}
use Rattle.vortex_stats_select.proofs.WantLemmas.{equal_to_wanted, truths_wanted}
use Rattle.vortex_stats_select.specs.Wants.{value_at}
use Rattle.vortex_stats_select.proofs.select.truth.Goals as goal

pub returns-in-Some : goal.returns-in-Some
returns-in-Some g c =
    let rows = g.S.Columns.rows c.args.columns.now in let want = c.args.want in let cs = column_of c.in-Some.column in
    c.told.ensures _ (IfOk-weaker c.compare_literal.result _ _ (λ mask is. is
    ∙ (λ i. map (λ d. is_true (compared equal d (content_of (raw_of-Bool want i)))) cs)
    ∙ (λ i. map (λ d. (wanted_true (compared equal d (boolean want)) ∙ equal_to_wanted want d) i) cs)
    ∙ ap (map (is_wanted want)) c.in-Some.ensures ∙ map_twice (is_wanted want) (value_at c.args.e.now) rows) c.compare_literal.ensures)

pub returns : goal.returns
returns g c =
    let rows = g.S.Columns.rows c.args.columns.now in let n = c.len-len.result in
    let operand = c.in-Some-2.operand in let e = c.args.e.now in
    let l = subst (λ o. IfSome o (λ operand. operand_rows operand (length rows) ≡ map (value_at e) rows)) c.in-Some-2.is c.in_ok-operand.ensures in
    subst (λ ms. IfSome c.in_ok-found.found (λ mask. mask.items ≡ ms))
    ((λ i. map (λ p. is_wanted true (compared equal p.0 p.1)) (zip (operand_rows operand n) (replicate n (content_of (raw_of-Bool c.args.want i)))))
    ∙ truths_wanted rows n c.len-len.ensures c.args.want e (operand_rows operand n) (ap (operand_rows operand) c.len-len.ensures ∙ l))
    c.in_ok-found.ensures
