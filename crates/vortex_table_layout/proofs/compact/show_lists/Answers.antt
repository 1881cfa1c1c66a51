use Rattle.std.proofs.Common.{◌≡◌, ◌∙◌, false, length, sym, ap, subst}
use Rattle.std.proofs.lemmas.Result.{IfOk-weaker}
use Rattle.vortex_arrays_model.specs.Layout.{list_views, IsSound}
use Rattle.vortex_arrays_model.specs.Canonical.{counts}
use Rattle.vortex_arrays_core.specs.LayoutOf.{valid_of}
use Rattle.vortex_arrays_validity.specs.Places.{places_or}
use Rattle.vortex_arrays_validity.proofs.PlaceLemmas.{place_count}
use Rattle.vortex_table_layout.proofs.ShownLemmas.{seen_lists, seen_sound}
use Rattle.vortex_table_layout.proofs.compact.show_lists.Goals as goal

pub seen_numbers-requires : goal.seen_numbers-requires
seen_numbers-requires c =
    let s = c.args.sizes.now in
    let sound : IsSound (list_views c.args.elements.now c.args.offsets.now s false (valid_of c.args.validity.now)) = c.requires.sound in
    let read : c.deref.result.now ≡ places_or 0 s = c.deref.ensures.value ∙ c.in_ok-all.ensures in
    c.requires.many ∙ sym sound.5 ∙ sym (ap length read ∙ place_count 0 s)

pub of_list_views-requires : goal.of_list_views-requires
of_list_views-requires c =
    let e = c.args.elements.now in let o = c.args.offsets.now in let s = c.args.sizes.now in let v = valid_of c.args.validity.now in
    let ns = c.in_ok-shown.shown.items in
    let read : c.deref.result.now ≡ places_or 0 s = c.deref.ensures.value ∙ c.in_ok-all.ensures in
    let es : c.in_ok-elements.elements ≡ e = c.in_ok-elements.ensures.cases in
    let os : c.in_ok-offsets.offsets ≡ o = c.in_ok-offsets.ensures.cases in
    let vs : valid_of c.in_ok-validity.validity ≡ v = c.in_ok-validity.ensures.cases in
    let sizes : c.in_ok-sizes.sizes ≡ counts ns = c.in_ok-sizes.ensures ∙ ap counts c.in_ok-from_vec.ensures in
    λ _ _ fits. subst IsSound (λ t. list_views (sym es t) (sym os t) (sym sizes t) false (sym vs t))
    (seen_sound e o s v c.args.seen.now c.deref.result.now ns read c.in_ok-shown.ensures c.requires.sound (subst IsSound sizes fits))

pub returns : goal.returns
returns c =
    let e = c.args.elements.now in let o = c.args.offsets.now in let s = c.args.sizes.now in let v = valid_of c.args.validity.now in
    let ns = c.in_ok-shown.shown.items in
    let read : c.deref.result.now ≡ places_or 0 s = c.deref.ensures.value ∙ c.in_ok-all.ensures in
    let es : c.in_ok-elements.elements ≡ e = c.in_ok-elements.ensures.cases in
    let os : c.in_ok-offsets.offsets ≡ o = c.in_ok-offsets.ensures.cases in
    let vs : valid_of c.in_ok-validity.validity ≡ v = c.in_ok-validity.ensures.cases in
    let sizes : c.in_ok-sizes.sizes ≡ counts ns = c.in_ok-sizes.ensures ∙ ap counts c.in_ok-from_vec.ensures in
    IfOk-weaker c.of_list_views.result _ _
    (λ b is. seen_lists e o s v c.args.seen.now c.deref.result.now ns read c.in_ok-shown.ensures b (is ∙ (λ t. list_views (es t) (os t) (sizes t) false (vs t)))) c.of_list_views.ensures
