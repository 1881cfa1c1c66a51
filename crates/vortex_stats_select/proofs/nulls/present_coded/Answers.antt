use Rattle.std.proofs.Common.{◌≡◌, ◌∙◌, ap, sym, refl, subst, map, not, false}
use Rattle.std.specs.Prelude.{IfOk, IfSome}
use Rattle.std.proofs.lemmas.Result.{IfOk-weaker}
use Rattle.vortex_model.specs.Content.{Content, is_null}
use Rattle.vortex_arrays_model.specs.Layout.{rows_of}
use Rattle.vortex_stats_select.specs.Coded.{is_marked}
use Rattle.vortex_stats_select.specs.Leaves.{leaf_rows}
use Rattle.vortex_stats_select.proofs.CodedLemmas.{spread_is, coded_rows}
use Rattle.vortex_stats_select.proofs.NullLemmas.{looked}
use Rattle.vortex_stats_select.proofs.nulls.present_coded.Goals as goal

pub returns-in_default : goal.returns-in_default
returns-in_default c = IfOk-weaker c.looked_at.result _ _ (λ mask is. is ∙ looked c.args.column.now) c.looked_at.ensures

pub returns : goal.returns
returns c =
    let codes = c.args.codes.now in let values = c.args.values.now in let marks = c.deref.result.now in
    let test = λ (d : Content). not (is_null d) in
    let read = subst (λ o. IfSome o (λ leaf. leaf_rows leaf ≡ rows_of codes)) c.in-Some.is c.in_ok-codes.ensures in
    subst (λ ms. IfOk c.spread.result (λ rows. rows.items ≡ ms))
    ((λ i. map (is_marked marks) ((c.as_column.ensures ∙ read) i))
    ∙ spread_is test refl marks (rows_of values) (rows_of codes) (c.deref.ensures.value ∙ c.in_ok-mask.ensures ∙ looked values)
    ∙ ap (map test) (coded_rows codes values false c.requires.within ∙ sym (c.requires.column false)))
    c.spread.ensures
