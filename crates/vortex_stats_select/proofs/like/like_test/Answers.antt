use Rattle.std.proofs.Common.{◌≡◌, ◌∙◌, ap, sym, subst, map, Some}
use Rattle.std.specs.Prelude.{IfOk, IfSome, option_copied}
use Rattle.vortex_arrays_model.specs.Layout.{rows_of}
use Rattle.vortex_stats_bind.specs.Bound.{match_test}
use Rattle.vortex_stats_bind.specs.Truths.{text_in}
use Rattle.vortex_stats_mask.specs.Wanted.{is_wanted}
use Rattle.vortex_stats_select.specs.Asked.{seen}
use Rattle.vortex_stats_select.proofs.LikeLemmas.{like_wanted}
use Rattle.vortex_stats_select.specs.Wants.{value_at, values_in}
use Rattle.vortex_stats_select.proofs.like.like_test.Goals as goal

pub returns : goal.returns
returns g c =
    let rows = g.S.Columns.rows c.args.columns.now in let path = c.in-Some-as_column.path.now in
    let want = c.args.want in let options = c.args.options in let x = c.args.value.now in let y = c.args.pattern.now in
    let form = c.as_str-pattern.result.now in let column = c.in-Some-2.column in
    let told : text_in y ≡ Some form = sym c.as_text.ensures ∙ ap option_copied c.in-Some.is ∙ ap Some (sym c.as_str-pattern.ensures) in
    let made = subst (λ o. IfSome o (λ column. rows_of column ≡ values_in path rows)) c.in-Some-2.is c.in_ok-column.ensures in
    subst (λ ms. IfOk c.like_array.result (λ found. IfSome found (λ mask. seen c.args.asked mask.items ≡ seen c.args.asked ms)))
    (like_wanted want options.negated form x y path rows (rows_of column) c.in-Some-as_column.ensures.path told made
    ∙ (λ i. map (λ row. is_wanted want (value_at (match_test x y options.negated (sym c.if-options.false i)) row)) rows))
    c.like_array.ensures
