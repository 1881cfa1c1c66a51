use Rattle.std.proofs.Common.{◌≡◌, ◌∙◌, ℕ, List, length, sym, ap, subst}
use Rattle.vortex_arrays_model.specs.Layout.{len_of}
use Rattle.vortex_arrays_model.specs.Parts.{valid_in}
use Rattle.vortex_arrays_core.specs.LayoutOf.{valid_of}
use Rattle.vortex_arrays_nested.specs.Parts.{elements_of, offsets_of, sizes_of, is_flagged}
use Rattle.vortex_arrays_rebuild.specs.Indices.{AreRead}
use Rattle.vortex_arrays_rebuild.specs.Density.{MarksElements, AreValidSizes, AreFurthest, AreCovered}
use Rattle.vortex_arrays_rebuild.proofs.DensityLemmas.{marks_view}
use Rattle.vortex_arrays_rebuild.proofs.density.referenced_elements.Goals as goal

pub returns : goal.returns
returns c =
    let os : List ℕ = c.in_ok-offsets.offsets.items in
    let ns : List ℕ = c.in_ok-sizes.sizes.items in
    let ends : List ℕ = c.in_ok-ends.ends.items in
    let read : AreRead (offsets_of c.args.lists.now) c.in_ok-offsets.offsets.items = subst (λ o. AreRead o c.in_ok-offsets.offsets.items) c.slots-slots.ensures.offsets c.in_ok-offsets.ensures in
    let sized : AreValidSizes (sizes_of c.args.lists.now) (valid_in c.args.lists.now) c.in_ok-sizes.sizes.items =
    subst (λ v. AreValidSizes (sizes_of c.args.lists.now) v c.in_ok-sizes.sizes.items) c.slots-slots.ensures.validity
    (subst (λ s. AreValidSizes s (valid_of c.slots-slots.result.validity.now) c.in_ok-sizes.sizes.items) c.slots-slots.ensures.sizes c.in_ok-sizes.ensures) in
    let many : c.len-count.result ≡ len_of (elements_of c.args.lists.now) = c.len-count.ensures.count ∙ ap len_of c.slots-slots.ensures.elements in
    let far : AreFurthest c.in_ok-offsets.offsets.items c.in_ok-sizes.sizes.items (length c.in_ok-offsets.offsets.items) (len_of (elements_of c.args.lists.now)) c.in_ok-ends.ends.items =
    subst (λ n. AreFurthest c.in_ok-offsets.offsets.items c.in_ok-sizes.sizes.items (length c.in_ok-offsets.offsets.items) n c.in_ok-ends.ends.items) many
    (subst (λ xs. AreFurthest xs c.in_ok-sizes.sizes.items (length xs) c.len-count.result c.in_ok-ends.ends.items) c.deref.ensures.value
    (subst (λ ys. AreFurthest c.deref.result.now ys (length c.deref.result.now) c.len-count.result c.in_ok-ends.ends.items) c.deref-2.ensures.value c.in_ok-ends.ensures)) in
    let cover : AreCovered c.in_ok-ends.ends.items (length c.in_ok-ends.ends.items) c.in_ok-marks.marks.items =
    subst (λ es. AreCovered es (length es) c.in_ok-marks.marks.items) c.deref-3.ensures.value c.in_ok-marks.ensures in
    subst (MarksElements c.args.lists.now) (sym (c.from_buffer.ensures ∙ c.in_ok-bits.ensures ∙ c.deref-4.ensures.value))
    (marks_view c.args.lists.now (elements_of c.args.lists.now) (offsets_of c.args.lists.now) (sizes_of c.args.lists.now) (is_flagged c.args.lists.now) (valid_in c.args.lists.now) os ns ends c.in_ok-marks.marks.items
    c.slots-slots.ensures.parts c.slots-slots.ensures.sound read sized far cover)
