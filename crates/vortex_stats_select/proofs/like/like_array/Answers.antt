use Rattle.std.proofs.Common.{◌≡◌, ◌∙◌, sym, ap, subst, map}
use Rattle.std.specs.Prelude.{IfOk, IfSome}
use Rattle.vortex_model.specs.Content.{Content, text}
use Rattle.vortex_model_table.specs.Truth.{liked}
use Rattle.vortex_arrays_model.specs.Layout.{rows_of}
use Rattle.vortex_arrays_core.specs.LayoutOf.{layout_of}
use Rattle.vortex_stats_mask.specs.Wanted.{is_wanted}
use Rattle.vortex_stats_select.proofs.AskedLemmas.{told_of_all}
use Rattle.vortex_stats_select.proofs.like.like_array.Goals as goal

pub returns-in-Dict : goal.returns-in-Dict
returns-in-Dict c =
    let test = λ (d : Content). is_wanted c.args.want (liked d (text c.args.pattern.now) c.args.negated) in
    let same = sym c.layout.ensures.layout ∙ ap layout_of c.in-Dict.is in
    told_of_all c.args.asked c.like_coded.result (map test (rows_of c.args.column.now))
    (subst (λ a. IfOk c.like_coded.result (λ found. IfSome found (λ mask. mask.items ≡ map test (rows_of a)))) (sym same)
    (c.like_coded.ensures c.in-Dict.field-2))
