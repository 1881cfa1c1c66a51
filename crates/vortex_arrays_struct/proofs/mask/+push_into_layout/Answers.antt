use Rattle.std.proofs.Common.{◌≡◌, false, sym, ap, subst, ◌∙◌}
use Rattle.vortex_arrays_model.specs.Layout.{dictionary, IsSound}
use Rattle.vortex_arrays_model.proofs.PushLemmas.{pushes_dictionary}
use Rattle.vortex_arrays_core.specs.LayoutOf.{layout_of, valid_of}
use Rattle.vortex_arrays_struct.proofs.Pushes.{dictionary_pushed}
use Rattle.vortex_arrays_struct.proofs.mask.+push_into_layout.Goals as goal

pub of_dict-requires : goal.of_dict-requires
of_dict-requires t c =
    let sound : IsSound (dictionary c.in-Dict.codes c.in-Dict.values c.in-Dict.field-2) = subst (λ l. IsSound (layout_of l)) c.in-Dict.is c.layout.ensures.sound in
    λ _ _. rw c.in_ok-clone-in-Dict.ensures.cases (dictionary_pushed c.in-Dict.codes c.in_ok-pushed-in-Dict.pushed c.in-Dict.values c.in-Dict.field-2 (valid_of c.args.validity.now) sound c.in_ok-pushed-in-Dict.ensures.masked)

pub returns-in_ok-dictionary-in-Dict-clause-masked : goal.returns-in_ok-dictionary-in-Dict-clause-masked
returns-in_ok-dictionary-in-Dict-clause-masked t c =
    let sound : IsSound (dictionary c.in-Dict.codes c.in-Dict.values c.in-Dict.field-2) = subst (λ l. IsSound (layout_of l)) c.in-Dict.is c.layout.ensures.sound in
    let same : c.args.array.now ≡ dictionary c.in-Dict.codes c.in-Dict.values c.in-Dict.field-2 = sym c.layout.ensures.layout ∙ ap layout_of c.in-Dict.is in
    let made : c.in_ok-dictionary-in-Dict.dictionary ≡ dictionary c.in_ok-pushed-in-Dict.pushed c.in-Dict.values false = c.in_ok-dictionary-in-Dict.ensures ∙ ap (λ x. dictionary c.in_ok-pushed-in-Dict.pushed x false) c.in_ok-clone-in-Dict.ensures.cases in
    rw (same, made) (pushes_dictionary c.in-Dict.codes c.in_ok-pushed-in-Dict.pushed c.in-Dict.values c.in-Dict.field-2 (valid_of c.args.validity.now) sound c.in_ok-pushed-in-Dict.ensures.masked)
