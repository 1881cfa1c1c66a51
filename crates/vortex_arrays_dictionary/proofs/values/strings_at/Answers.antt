use Rattle.std.proofs.Common.{length, get_or, sym, subst}
use Rattle.std.proofs.lemmas.Result.{IfOk-weaker}
use Rattle.vortex_arrays_model.specs.Layout.{strings}
use Rattle.vortex_arrays_model.specs.Picks.{Picks}
use Rattle.vortex_arrays_core.specs.LayoutOf.{valid_of, strings_of}
use Rattle.vortex_arrays_dictionary.proofs.ValueLemmas.{strings_chosen}
use Rattle.vortex_arrays_dictionary.proofs.values.strings_at.Goals as goal

pub of_strings-requires : goal.of_strings-requires
of_strings-requires c =
    let s = strings_of c.args.kind in
    let vs = c.args.views.now in
    let bs = c.args.buffers.now.value.items in
    let v = valid_of c.args.validity.now in
    let w = valid_of c.without_nulls.result in
    let ps = c.args.places.now in
    let p = strings_chosen s vs c.in_ok-chosen.chosen bs v w ps c.requires.sound c.requires.within c.in_ok-chosen.ensures c.without_nulls.ensures.fits c.without_nulls.ensures.nullability c.without_nulls.ensures.valid c.requires.there in
    let q : Picks (strings s vs bs v) (strings s c.in_ok-chosen.chosen c.in_ok-buffers.buffers.value.items w) (length ps) (λ i. get_or ps i 0) =
    subst (λ b. Picks (strings s vs bs v) (strings s c.in_ok-chosen.chosen b.items w) (length ps) (λ i. get_or ps i 0)) (sym c.in_ok-buffers.ensures.cases) p in
    q.sound

pub returns-clause-rows : goal.returns-clause-rows
returns-clause-rows c =
    let s = strings_of c.args.kind in
    let vs = c.args.views.now in
    let bs = c.args.buffers.now.value.items in
    let v = valid_of c.args.validity.now in
    let w = valid_of c.without_nulls.result in
    let ps = c.args.places.now in
    let p = strings_chosen s vs c.in_ok-chosen.chosen bs v w ps c.requires.sound c.requires.within c.in_ok-chosen.ensures c.without_nulls.ensures.fits c.without_nulls.ensures.nullability c.without_nulls.ensures.valid c.requires.there in
    let q : Picks (strings s vs bs v) (strings s c.in_ok-chosen.chosen c.in_ok-buffers.buffers.value.items w) (length ps) (λ i. get_or ps i 0) =
    subst (λ b. Picks (strings s vs bs v) (strings s c.in_ok-chosen.chosen b.items w) (length ps) (λ i. get_or ps i 0)) (sym c.in_ok-buffers.ensures.cases) p in
    IfOk-weaker c.of_strings.result _ _ (λ r is. subst (λ x. Picks (strings s vs bs v) x (length ps) (λ i. get_or ps i 0)) (sym is) q) c.of_strings.ensures
