use Rattle.std.proofs.Common.{◌≡◌, ◌∙◌, ap, subst, map, get_or, false, IfSome, ◌<◌, length, sym}
use Rattle.std.specs.List.{All}
use Rattle.std.proofs.lemmas.Result.{IfOk-weaker}
use Rattle.vortex_dtype_core.specs.View.{type_of}
use Rattle.vortex_arrays_model.specs.Layout.{bools, dictionary}
use Rattle.vortex_arrays_core.specs.LayoutOf.{valid_of}
use Rattle.vortex_arrays_cast.specs.Cast.{IsCast}
use Rattle.vortex_arrays_cast.specs.Dictionaries.{places_of}
use Rattle.vortex_arrays_cast.proofs.DictionaryLemmas.{places_within, IsCoded, coded_bools_fit, cast_coded_bools}
use Rattle.vortex_arrays_cast.proofs.EvenLemmas.{some_weaker}
use Rattle.vortex_arrays_cast.proofs.dictionaries.cast_coded_bools.Goals as goal

pub cast_bools-requires : goal.cast_bools-requires
cast_bools-requires c =
    let codes = c.args.codes.now in let bs = c.args.bits.now in let ds = c.in_ok-coded.coded in
    let v = valid_of c.args.validity.now in let w = valid_of c.in-Some.rows in
    let p : IsCoded codes v w = subst (λ o. IfSome o (λ rows. IsCoded codes v (valid_of rows))) c.in-Some.is c.in_ok-rows.ensures in
    let e : ds ≡ map (λ i. get_or bs i false) (places_of codes)
    = c.in_ok-coded.ensures ∙ ap (map (λ i. get_or bs i false)) (c.deref.ensures.value ∙ c.in_ok-places.ensures) in
    coded_bools_fit codes bs ds v w e p

pub returns : goal.returns
returns c =
    let codes = c.args.codes.now in let bs = c.args.bits.now in let ds = c.in_ok-coded.coded in
    let v = valid_of c.args.validity.now in let w = valid_of c.in-Some.rows in let k = type_of c.args.target.now in
    let p : IsCoded codes v w = subst (λ o. IfSome o (λ rows. IsCoded codes v (valid_of rows))) c.in-Some.is c.in_ok-rows.ensures in
    let e : ds ≡ map (λ i. get_or bs i false) (places_of codes)
    = c.in_ok-coded.ensures ∙ ap (map (λ i. get_or bs i false)) (c.deref.ensures.value ∙ c.in_ok-places.ensures) in
    IfOk-weaker c.cast_bools.result _ _ (λ cast found. some_weaker cast (IsCast k (bools ds w)) (IsCast k (dictionary codes (bools bs v) false))
    (λ r h. cast_coded_bools k codes bs ds v w r e p h) found) c.cast_bools.ensures

pub gather-requires : goal.gather-requires
gather-requires c =
    subst (λ ps. All (λ i. i < length c.args.bits.now) ps) (sym (c.deref.ensures.value ∙ c.in_ok-places.ensures))
    (places_within c.args.codes.now (length c.args.bits.now) c.requires.some c.requires.sound.3)
