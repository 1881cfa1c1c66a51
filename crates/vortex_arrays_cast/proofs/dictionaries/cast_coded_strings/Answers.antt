use Rattle.std.proofs.Common.{◌≡◌, ◌∙◌, ap, subst, map, Some, false, IfSome, ◌<◌, length, sym}
use Rattle.std.specs.List.{All, slice_get}
use Rattle.std.proofs.lemmas.Result.{IfOk-weaker}
use Rattle.vortex_dtype_core.specs.View.{type_of}
use Rattle.vortex_arrays_model.specs.Layout.{strings, dictionary}
use Rattle.vortex_arrays_core.specs.LayoutOf.{valid_of, strings_of}
use Rattle.vortex_arrays_cast.specs.Cast.{IsCast}
use Rattle.vortex_arrays_cast.specs.Dictionaries.{places_of}
use Rattle.vortex_arrays_cast.proofs.DictionaryLemmas.{places_within, IsCoded, coded_views_sound, cast_coded_strings}
use Rattle.vortex_arrays_cast.proofs.EvenLemmas.{some_weaker}
use Rattle.vortex_arrays_cast.proofs.dictionaries.cast_coded_strings.Goals as goal

pub cast_strings-requires : goal.cast_strings-requires
cast_strings-requires c =
    let codes = c.args.codes.now in let vs = c.args.views.now in let ws = c.in_ok-coded.coded in
    let s = strings_of c.args.kind in let bs = c.args.buffers.now.value.items in
    let v = valid_of c.args.validity.now in let w = valid_of c.in-Some.rows in
    let p : IsCoded codes v w = subst (λ o. IfSome o (λ rows. IsCoded codes v (valid_of rows))) c.in-Some.is c.in_ok-rows.ensures in
    let e : map Some ws ≡ map (slice_get vs) (places_of codes) = c.in_ok-coded.ensures ∙ ap (map (slice_get vs)) (c.deref.ensures.value ∙ c.in_ok-places.ensures) in
    coded_views_sound s codes vs ws bs v w c.requires.some c.requires.sound e p

pub returns : goal.returns
returns c =
    let codes = c.args.codes.now in let vs = c.args.views.now in let ws = c.in_ok-coded.coded in
    let s = strings_of c.args.kind in let bs = c.args.buffers.now.value.items in
    let v = valid_of c.args.validity.now in let w = valid_of c.in-Some.rows in let k = type_of c.args.target.now in
    let p : IsCoded codes v w = subst (λ o. IfSome o (λ rows. IsCoded codes v (valid_of rows))) c.in-Some.is c.in_ok-rows.ensures in
    let e : map Some ws ≡ map (slice_get vs) (places_of codes) = c.in_ok-coded.ensures ∙ ap (map (slice_get vs)) (c.deref.ensures.value ∙ c.in_ok-places.ensures) in
    IfOk-weaker c.cast_strings.result _ _ (λ cast found. some_weaker cast (IsCast k (strings s ws bs w)) (IsCast k (dictionary codes (strings s vs bs v) false))
    (λ r h. cast_coded_strings k s codes vs ws bs v w r e p h) found) c.cast_strings.ensures

pub gather-requires : goal.gather-requires
gather-requires c =
    subst (λ ps. All (λ i. i < length c.args.views.now) ps) (sym (c.deref.ensures.value ∙ c.in_ok-places.ensures))
    (places_within c.args.codes.now (length c.args.views.now) c.requires.some c.requires.sound.3)
