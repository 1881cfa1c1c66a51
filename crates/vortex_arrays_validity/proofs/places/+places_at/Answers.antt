use Rattle.std.proofs.Common.{◌≡◌, ◌∙◌, sym, ap, subst}
use Rattle.std.proofs.lemmas.Result.{IfOk-weaker}
use Rattle.vortex_arrays_model.specs.Layout.{dictionary, len_of, IsSound}
use Rattle.vortex_arrays_core.specs.LayoutOf.{layout_of}
use Rattle.vortex_arrays_validity.specs.Places.{places_at}
use Rattle.vortex_arrays_validity.proofs.PlaceLemmas.{constant_at, dictionary_at}
use Rattle.vortex_arrays_validity.proofs.places.+places_at.Goals as goal

pub returns-in-Constant : goal.returns-in-Constant
returns-in-Constant t c =
    let place = c.first_place.result in
    IfOk-weaker c.repeated_at.result _ _ (λ places e.
    constant_at c.args.array.now c.args.none place _ _ c.in-Constant.len c.args.indices.now
    places.items (ap layout_of (sym c.in-Constant.is) ∙ c.layout.ensures.layout)
    c.first_place.ensures e)
    c.repeated_at.ensures

pub returns-in_ok-named-in-Dict : goal.returns-in_ok-named-in-Dict
returns-in_ok-named-in-Dict t c =
    let codes = c.in-Dict.codes in
    let values = c.in-Dict.values in
    let is = c.args.indices.now in
    let laid : dictionary codes values c.in-Dict.field-2 ≡ c.args.array.now =
    ap layout_of (sym c.in-Dict.is) ∙ c.layout.ensures.layout in
    let through : c.deref.result.now ≡ places_at (len_of values) codes is =
    c.deref.ensures.value ∙ c.in_ok-named-in-Dict.ensures
    ∙ ap (λ n. places_at n codes is) c.len.ensures.count in
    IfOk-weaker c.places_at-in-Dict.result _ _ (λ places e.
    dictionary_at c.args.array.now c.args.none codes values c.in-Dict.field-2 is
    c.deref.result.now places.items laid
    (subst IsSound c.layout.ensures.layout c.layout.ensures.sound) through e)
    c.places_at-in-Dict.ensures
