use Rattle.std.proofs.Common.{◌≡◌, ◌∙◌, sym, subst, ap, map, replicate, false}
use Rattle.std.specs.Prelude.{MatchOption}
use Rattle.std.proofs.lemmas.Result.{IfOk-weaker}
use Rattle.vortex_model.specs.Content.{integer}
use Rattle.vortex_stats_mask.specs.Integers.{integers_in}
use Rattle.vortex_stats_mask.specs.Columns.{contents_of, are_numbers}
use Rattle.vortex_stats_select.specs.Coded.{is_marked}
use Rattle.vortex_stats_select.proofs.CodedLemmas.{unmarked_items}
use Rattle.vortex_stats_select.proofs.spread.spread_items.Goals as goal

pub returns-in-Some : goal.returns-in-Some
returns-in-Some c =
    let items = c.args.items.now in
    let said = subst (λ o. MatchOption o (are_numbers items ≡ false) (λ numbers. contents_of items ≡ map integer (integers_in numbers))) c.in-Some.is c.as_numbers.ensures in
    IfOk-weaker c.spread_numbers.result _ _ (λ rows is. is ∙ ap (map (is_marked c.args.mask.now)) (sym said)) c.spread_numbers.ensures

pub returns-in-None : goal.returns-in-None
returns-in-None c =
    let items = c.args.items.now in
    let other = subst (λ o. MatchOption o (are_numbers items ≡ false) (λ numbers. contents_of items ≡ map integer (integers_in numbers))) c.in-None.is c.as_numbers.ensures in
    IfOk-weaker c.no_rows.result _ _ (λ rows is. is ∙ ap (λ n. replicate n false) c.len.ensures ∙ unmarked_items c.args.mask.now items other) c.no_rows.ensures
