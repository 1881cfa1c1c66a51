use Rattle.std.proofs.Common.{◌≡◌, ◌∙◌, ap, subst, map}
use Rattle.std.specs.Prelude.{IfSome}
use Rattle.vortex_model.specs.Content.{Content, text}
use Rattle.vortex_model_table.specs.Truth.{liked}
use Rattle.vortex_arrays_model.specs.Layout.{rows_of}
use Rattle.vortex_stats_mask.specs.Wanted.{is_wanted}
use Rattle.vortex_stats_select.specs.Coded.{is_marked}
use Rattle.vortex_stats_select.specs.Leaves.{leaf_rows}
use Rattle.vortex_stats_select.proofs.CodedLemmas.{coded_rows, spread_is, null_like}
use Rattle.vortex_stats_select.proofs.like.like_coded.Goals as goal

pub returns : goal.returns
returns c f =
    let want = c.args.want in let negated = c.args.negated in let form = text c.args.pattern.now in let marks = c.deref.result.now in
    let test = λ (d : Content). is_wanted want (liked d form negated) in
    let values = rows_of c.args.values.now in
    let told = subst (λ o. IfSome o (λ mask. mask.items ≡ map test values)) c.in-Some.is c.in_ok-mask.ensures in
    let coded = subst (λ o. IfSome o (λ leaf. leaf_rows leaf ≡ rows_of c.args.codes.now)) c.in-Some-2.is c.in_ok-codes.ensures in
    c.in_ok-mask-2.ensures ∙ (λ i. map (is_marked marks) ((c.as_column.ensures ∙ coded) i))
    ∙ spread_is test (null_like want negated form) marks values (rows_of c.args.codes.now) (c.deref.ensures.value ∙ told)
    ∙ ap (map test) (coded_rows c.args.codes.now c.args.values.now f c.requires.within)
