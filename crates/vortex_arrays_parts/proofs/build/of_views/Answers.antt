use Rattle.std.proofs.Common.{◌≡◌, ◌∙◌, map, sym, ap, subst}
use Rattle.std.proofs.lemmas.Result.{IfOk-weaker}
use Rattle.vortex_dtype_ptype.specs.View.{nullability_of_flag}
use Rattle.vortex_dtype_core.specs.View.{type_of}
use Rattle.vortex_arrays_model.specs.Layout.{strings, type_of_strings}
use Rattle.vortex_arrays_core.specs.LayoutOf.{valid_of, strings_of}
use Rattle.vortex_arrays_leaf.specs.Strings.{strings_in}
use Rattle.vortex_arrays_parts.specs.Values.{lent, IsOfValues}
use Rattle.vortex_arrays_parts.proofs.TextTypes.{strings_kind}
use Rattle.vortex_arrays_parts.proofs.RowLemmas.{strings_sound, strings_made}
use Rattle.vortex_arrays_parts.proofs.build.of_views.Goals as goal

pub new_unchecked-requires-clause-sound : goal.new_unchecked-requires-clause-sound
new_unchecked-requires-clause-sound c =
    let s = strings_of c.args.kind in
    let n = nullability_of_flag c.args.nullability in
    let views : c.in_ok-views.views ≡ c.args.views.items = c.in_ok-views.ensures in
    let buffers : c.in_ok-buffers.buffers.value.items ≡ c.args.buffers.items = ap (λ v. v.items) c.in_ok-buffers.ensures.ok in
    let kind : strings_in (type_of c.dtype_of-dtype.result) ≡ s = ap strings_in c.dtype_of-dtype.ensures ∙ strings_kind s n in
    let made = strings_sound s n (map lent c.args.values.now) (valid_of c.in_ok-validity.validity) c.args.buffers.items c.args.views.items c.requires.held c.requires.nulls c.requires.views c.in_ok-validity.ensures in
    rw (views, buffers, kind) made

pub returns : goal.returns
returns c =
    let s = strings_of c.args.kind in
    let n = nullability_of_flag c.args.nullability in
    let v = valid_of c.in_ok-validity.validity in
    let views : c.in_ok-views.views ≡ c.args.views.items = c.in_ok-views.ensures in
    let buffers : c.in_ok-buffers.buffers.value.items ≡ c.args.buffers.items = ap (λ v. v.items) c.in_ok-buffers.ensures.ok in
    let kind : strings_in (type_of c.dtype_of-dtype.result) ≡ s = ap strings_in c.dtype_of-dtype.ensures ∙ strings_kind s n in
    let made = strings_made s n (map lent c.args.values.now) v c.args.buffers.items c.args.views.items c.requires.nulls c.requires.views c.in_ok-validity.ensures in
    IfOk-weaker c.new_unchecked.result _ _ (λ a e. subst (IsOfValues (type_of_strings s n) (map lent c.args.values.now)) (sym (e ∙ (λ i. strings (kind i) (views i) (buffers i) v))) made) c.new_unchecked.ensures.made
