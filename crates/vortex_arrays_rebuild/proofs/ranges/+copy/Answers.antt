use Rattle.std.proofs.Common.{◌≡◌, false, length, get_or, ap, sym, subst, ◌∙◌, arith}
use Rattle.std.proofs.lemmas.Result.{IfOk-weaker}
use Rattle.vortex_arrays_model.specs.Layout.{dictionary, fixed_lists, len_of, list_views, numbers, strings, IsSound}
use Rattle.vortex_arrays_model.proofs.PicksLemmas.{picks_columns}
use Rattle.vortex_arrays_buffer.specs.PrimitiveBuffers.{integers_of, kind_of_numbers}
use Rattle.vortex_arrays_core.specs.LayoutOf.{layout_of, strings_of, valid_of}
use Rattle.vortex_arrays_rebuild.specs.Runs.{positions_in}
use Rattle.vortex_arrays_rebuild.proofs.RangeLemmas.{Copies, copied_dictionary_sound, copied_fixed_lists_sound, copied_list_views_sound, copied_strings_sound, copies_dictionary, copies_fixed_lists, copies_list_views, copies_numbers, copies_strings}
use Rattle.vortex_arrays_rebuild.proofs.ranges.+copy.Goals as goal

pub copy_fields-returns-clause-parts : goal.copy_fields-returns-clause-parts
copy_fields-returns-clause-parts t c =
    let e = c.deref-field-items.ensures.value in
    let all : c.loop-field.field-index ≡ length c.args.fields.now.items = rw (← e) (omega arith) in
    picks_columns c.args.names.now c.args.fields.now.items c.loop-field.parts.items (length (positions_in c.args.runs.now.list.items)) (λ i. get_or (positions_in c.args.runs.now.list.items) i 0) (c.loop-field.invariant.many ∙ all) (λ k d h. c.loop-field.invariant.each k d (omega (arith, all)))

pub copy_rows-strings_in-requires-clause-sound : goal.copy_rows-strings_in-requires-clause-sound
copy_rows-strings_in-requires-clause-sound t c =
    let whole : c.args.array.now ≡ strings (strings_of c.in-VarBinView.kind) c.in-VarBinView.views c.in-VarBinView.buffers.value.items (valid_of c.in-VarBinView.validity) = sym c.layout.ensures.layout ∙ ap layout_of c.in-VarBinView.is in
    let sound : IsSound (strings (strings_of c.in-VarBinView.kind) c.in-VarBinView.views c.in-VarBinView.buffers.value.items (valid_of c.in-VarBinView.validity)) = subst IsSound (ap layout_of c.in-VarBinView.is) c.layout.ensures.sound in
    copied_strings_sound (strings_of c.in-VarBinView.kind) c.in-VarBinView.views c.in-VarBinView.buffers.value.items (valid_of c.in-VarBinView.validity) (valid_of c.in_ok-validity-in-VarBinView.validity) c.args.runs.now.limit c.args.runs.now.list.items sound (c.requires ∙ ap len_of whole) c.args.runs.now.within c.in_ok-validity-in-VarBinView.ensures

pub copy_rows-of_dict-requires : goal.copy_rows-of_dict-requires
copy_rows-of_dict-requires t c =
    let whole : c.args.array.now ≡ dictionary c.in-Dict.codes c.in-Dict.values c.in-Dict.field-2 = sym c.layout.ensures.layout ∙ ap layout_of c.in-Dict.is in
    let sound : IsSound (dictionary c.in-Dict.codes c.in-Dict.values c.in-Dict.field-2) = subst IsSound (ap layout_of c.in-Dict.is) c.layout.ensures.sound in
    λ _ _. rw c.in_ok-clone-in-Dict.ensures.cases (copied_dictionary_sound c.in-Dict.codes c.in_ok-codes-in-Dict.codes c.in-Dict.values c.in-Dict.field-2 c.args.runs.now.limit c.args.runs.now.list.items sound (c.requires ∙ ap len_of whole) c.args.runs.now.within c.in_ok-codes-in-Dict.ensures)

pub copy_lists-of_fixed_lists-requires : goal.copy_lists-of_fixed_lists-requires
copy_lists-of_fixed_lists-requires t c =
    let same = rw c.in-Some.is at c.in_ok-parts.ensures.positions in
    λ _. copied_fixed_lists_sound c.args.elements.now c.in_ok-elements.elements c.args.size c.args.runs.now.limit c.args.runs.now.len (valid_of c.args.validity.now) (valid_of c.in_ok-validity.validity) c.args.runs.now.list.items c.in-Some.parts.list.items c.args.runs.now.counted same c.in_ok-elements.ensures c.in_ok-validity.ensures

pub copy_rows-of_list_views-requires : goal.copy_rows-of_list_views-requires
copy_rows-of_list_views-requires t c =
    let whole : c.args.array.now ≡ list_views c.in-ListView.elements c.in-ListView.offsets c.in-ListView.sizes c.in-ListView.field-3 (valid_of c.in-ListView.validity) = sym c.layout.ensures.layout ∙ ap layout_of c.in-ListView.is in
    let sound : IsSound (list_views c.in-ListView.elements c.in-ListView.offsets c.in-ListView.sizes c.in-ListView.field-3 (valid_of c.in-ListView.validity)) = subst IsSound (ap layout_of c.in-ListView.is) c.layout.ensures.sound in
    λ _ _ _. rw c.in_ok-clone-in-ListView.ensures.cases (copied_list_views_sound c.in-ListView.elements c.in-ListView.offsets c.in-ListView.sizes c.in_ok-offsets-in-ListView.offsets c.in_ok-sizes-in-ListView.sizes c.in-ListView.field-3 (valid_of c.in-ListView.validity) (valid_of c.in_ok-validity-in-ListView.validity) c.args.runs.now.limit c.args.runs.now.list.items sound (c.requires ∙ ap len_of whole) c.args.runs.now.within c.in_ok-offsets-in-ListView.ensures c.in_ok-sizes-in-ListView.ensures c.in_ok-validity-in-ListView.ensures)

pub copy_rows-returns-in_ok-validity-in-Primitive : goal.copy_rows-returns-in_ok-validity-in-Primitive
copy_rows-returns-in_ok-validity-in-Primitive t c =
    let whole : c.args.array.now ≡ numbers (kind_of_numbers c.in-Primitive.items) (integers_of c.in-Primitive.items) (valid_of c.in-Primitive.validity) = sym c.layout.ensures.layout ∙ ap layout_of c.in-Primitive.is in
    let sound : IsSound (numbers (kind_of_numbers c.in-Primitive.items) (integers_of c.in-Primitive.items) (valid_of c.in-Primitive.validity)) = subst IsSound (ap layout_of c.in-Primitive.is) c.layout.ensures.sound in
    let p = copies_numbers (kind_of_numbers c.in-Primitive.items) (integers_of c.in-Primitive.items) (valid_of c.in-Primitive.validity) (valid_of c.in_ok-validity-in-Primitive.validity) c.args.runs.now.limit c.args.runs.now.list.items sound (c.requires ∙ ap len_of whole) c.args.runs.now.within c.in_ok-validity-in-Primitive.ensures in
    IfOk-weaker c.numbers_in.result _ _ (λ r is. subst (λ x. Copies x r c.args.runs.now.list.items) (sym whole) (subst (λ x. Copies (numbers (kind_of_numbers c.in-Primitive.items) (integers_of c.in-Primitive.items) (valid_of c.in-Primitive.validity)) x c.args.runs.now.list.items) (sym (is)) p)) c.numbers_in.ensures

pub copy_rows-returns-in_ok-validity-in-VarBinView : goal.copy_rows-returns-in_ok-validity-in-VarBinView
copy_rows-returns-in_ok-validity-in-VarBinView t c =
    let whole : c.args.array.now ≡ strings (strings_of c.in-VarBinView.kind) c.in-VarBinView.views c.in-VarBinView.buffers.value.items (valid_of c.in-VarBinView.validity) = sym c.layout.ensures.layout ∙ ap layout_of c.in-VarBinView.is in
    let sound : IsSound (strings (strings_of c.in-VarBinView.kind) c.in-VarBinView.views c.in-VarBinView.buffers.value.items (valid_of c.in-VarBinView.validity)) = subst IsSound (ap layout_of c.in-VarBinView.is) c.layout.ensures.sound in
    let p = copies_strings (strings_of c.in-VarBinView.kind) c.in-VarBinView.views c.in-VarBinView.buffers.value.items (valid_of c.in-VarBinView.validity) (valid_of c.in_ok-validity-in-VarBinView.validity) c.args.runs.now.limit c.args.runs.now.list.items sound (c.requires ∙ ap len_of whole) c.args.runs.now.within c.in_ok-validity-in-VarBinView.ensures in
    IfOk-weaker c.strings_in.result _ _ (λ r is. subst (λ x. Copies x r c.args.runs.now.list.items) (sym whole) (subst (λ x. Copies (strings (strings_of c.in-VarBinView.kind) c.in-VarBinView.views c.in-VarBinView.buffers.value.items (valid_of c.in-VarBinView.validity)) x c.args.runs.now.list.items) (sym (is)) p)) c.strings_in.ensures

pub copy_rows-returns-in_ok-clone-in-Dict : goal.copy_rows-returns-in_ok-clone-in-Dict
copy_rows-returns-in_ok-clone-in-Dict t c =
    let whole : c.args.array.now ≡ dictionary c.in-Dict.codes c.in-Dict.values c.in-Dict.field-2 = sym c.layout.ensures.layout ∙ ap layout_of c.in-Dict.is in
    let sound : IsSound (dictionary c.in-Dict.codes c.in-Dict.values c.in-Dict.field-2) = subst IsSound (ap layout_of c.in-Dict.is) c.layout.ensures.sound in
    let p = copies_dictionary c.in-Dict.codes c.in_ok-codes-in-Dict.codes c.in-Dict.values c.in-Dict.field-2 c.args.runs.now.limit c.args.runs.now.list.items sound (c.requires ∙ ap len_of whole) c.args.runs.now.within c.in_ok-codes-in-Dict.ensures in
    IfOk-weaker c.of_dict.result _ _ (λ r is. subst (λ x. Copies x r c.args.runs.now.list.items) (sym whole) (subst (λ x. Copies (dictionary c.in-Dict.codes c.in-Dict.values c.in-Dict.field-2) x c.args.runs.now.list.items) (sym (is ∙ ap (λ v. dictionary c.in_ok-codes-in-Dict.codes v false) c.in_ok-clone-in-Dict.ensures.cases)) p)) c.of_dict.ensures

pub copy_lists-returns : goal.copy_lists-returns
copy_lists-returns t c =
    let same = rw c.in-Some.is at c.in_ok-parts.ensures.positions in
    let p = copies_fixed_lists c.args.elements.now c.in_ok-elements.elements c.args.size c.args.runs.now.limit c.args.runs.now.len (valid_of c.args.validity.now) (valid_of c.in_ok-validity.validity) c.args.runs.now.list.items c.in-Some.parts.list.items c.args.runs.now.counted same c.in_ok-elements.ensures c.in_ok-validity.ensures in
    IfOk-weaker c.of_fixed_lists.result _ _ (λ r is. subst (λ x. Copies x r c.args.runs.now.list.items) (sym c.requires) (subst (λ x. Copies (fixed_lists c.args.elements.now c.args.size c.args.runs.now.limit (valid_of c.args.validity.now)) x c.args.runs.now.list.items) (sym (is)) p)) c.of_fixed_lists.ensures

pub copy_rows-returns-in_ok-clone-in-ListView : goal.copy_rows-returns-in_ok-clone-in-ListView
copy_rows-returns-in_ok-clone-in-ListView t c =
    let whole : c.args.array.now ≡ list_views c.in-ListView.elements c.in-ListView.offsets c.in-ListView.sizes c.in-ListView.field-3 (valid_of c.in-ListView.validity) = sym c.layout.ensures.layout ∙ ap layout_of c.in-ListView.is in
    let sound : IsSound (list_views c.in-ListView.elements c.in-ListView.offsets c.in-ListView.sizes c.in-ListView.field-3 (valid_of c.in-ListView.validity)) = subst IsSound (ap layout_of c.in-ListView.is) c.layout.ensures.sound in
    let p = copies_list_views c.in-ListView.elements c.in-ListView.offsets c.in-ListView.sizes c.in_ok-offsets-in-ListView.offsets c.in_ok-sizes-in-ListView.sizes c.in-ListView.field-3 (valid_of c.in-ListView.validity) (valid_of c.in_ok-validity-in-ListView.validity) c.args.runs.now.limit c.args.runs.now.list.items sound (c.requires ∙ ap len_of whole) c.args.runs.now.within c.in_ok-offsets-in-ListView.ensures c.in_ok-sizes-in-ListView.ensures c.in_ok-validity-in-ListView.ensures in
    IfOk-weaker c.of_list_views.result _ _ (λ r is. subst (λ x. Copies x r c.args.runs.now.list.items) (sym whole) (subst (λ x. Copies (list_views c.in-ListView.elements c.in-ListView.offsets c.in-ListView.sizes c.in-ListView.field-3 (valid_of c.in-ListView.validity)) x c.args.runs.now.list.items) (sym (is ∙ ap (λ v. list_views v c.in_ok-offsets-in-ListView.offsets c.in_ok-sizes-in-ListView.sizes false (valid_of c.in_ok-validity-in-ListView.validity)) c.in_ok-clone-in-ListView.ensures.cases)) p)) c.of_list_views.ensures
