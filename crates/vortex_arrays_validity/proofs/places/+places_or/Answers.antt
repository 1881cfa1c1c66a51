use Rattle.std.proofs.Common.{rules, ◌≡◌, ◌∙◌, replicate, sym, ap, subst}
use Rattle.std.specs.Result.{IfOk}
use Rattle.std.proofs.lemmas.Result.{IfOk-weaker}
use Rattle.vortex_arrays_model.specs.Layout.{dictionary, len_of, IsSound}
use Rattle.vortex_arrays_core.specs.LayoutOf.{layout_of}
use Rattle.vortex_arrays_validity.specs.Places.{places_or}
use Rattle.vortex_arrays_validity.proofs.PlaceLemmas.{constant_or, dictionary_or}
use Rattle.vortex_arrays_validity.proofs.places.+places_or.Goals as goal

pub returns-in-Constant : goal.returns-in-Constant
returns-in-Constant t c =
    let place = c.first_place.result in
    let made : IfOk c.vec.result (λ places. places.items ≡ replicate c.in-Constant.len place) =
    search rules in
    IfOk-weaker c.vec.result _ _ (λ places e.
    constant_or c.args.array.now c.args.none place _ _ c.in-Constant.len places.items
    (ap layout_of (sym c.in-Constant.is) ∙ c.layout.ensures.layout) c.first_place.ensures e) made

pub returns-in_ok-indices-in-Dict : goal.returns-in_ok-indices-in-Dict
returns-in_ok-indices-in-Dict t c =
    let codes = c.in-Dict.codes in
    let values = c.in-Dict.values in
    let laid : dictionary codes values c.in-Dict.field-2 ≡ c.args.array.now =
    ap layout_of (sym c.in-Dict.is) ∙ c.layout.ensures.layout in
    let named : c.deref.result.now ≡ places_or (len_of values) codes =
    c.deref.ensures.value ∙ c.in_ok-indices-in-Dict.ensures
    ∙ ap (λ n. places_or n codes) c.len.ensures.count in
    IfOk-weaker c.places_at.result _ _ (λ places e.
    dictionary_or c.args.array.now c.args.none codes values c.in-Dict.field-2 c.deref.result.now
    places.items laid (subst IsSound c.layout.ensures.layout c.layout.ensures.sound) named e)
    c.places_at.ensures
