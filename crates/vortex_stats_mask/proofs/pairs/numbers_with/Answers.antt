use Rattle.std.proofs.Common.{◌≡◌, sym, ap, ◌∙◌, map, replicate, false, length, min}
use Rattle.std.specs.List.{zip}
use Rattle.std.proofs.lemmas.Result.{IfOk-weaker}
use Rattle.vortex_model.specs.Content.{integer}
use Rattle.vortex_model_table.specs.Truth.{compared, is_true}
use Rattle.vortex_stats_mask.specs.Integers.{integers_in}
use Rattle.vortex_stats_expr.specs.Tree.{comparison_of}
use Rattle.vortex_stats_mask.specs.Columns.{values_of, contents_of}
use Rattle.vortex_stats_mask.proofs.SideBySide.{integers_paired, numbers_with_others}
use Rattle.vortex_stats_mask.proofs.Through.{values_counted}
use Rattle.vortex_stats_mask.proofs.pairs.numbers_with.Goals as goal

pub returns-in-Some : goal.returns-in-Some
returns-in-Some c =
    let op = comparison_of c.args.comparison in
    IfOk-weaker c.pair_numbers.result _ _ (λ mask is. is ∙ sym (integers_paired op (integers_in c.args.xs.now) (integers_in c.in-Some.others))
    ∙ ap (λ ds. map (λ p. is_true (compared op p.0 p.1)) (zip (map integer (integers_in c.args.xs.now)) ds)) (sym c.in-Some.ensures)) c.pair_numbers.ensures

pub returns-in-None : goal.returns-in-None
returns-in-None c =
    let op = comparison_of c.args.comparison in
    IfOk-weaker c.no_rows.result _ _ (λ mask is. is ∙ ap (λ n. replicate n false) (c.min.ensures ∙ (λ i. min (c.len.ensures i) (c.len-in-None.ensures i)))
    ∙ sym (numbers_with_others op (integers_in c.args.xs.now) c.args.right.now c.in-None.ensures)) c.no_rows.ensures
