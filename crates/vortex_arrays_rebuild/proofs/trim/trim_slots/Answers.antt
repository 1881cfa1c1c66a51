use Rattle.vortex_arrays_core.specs.LayoutOf.{valid_of}
use Rattle.vortex_arrays_rebuild.proofs.TrimLemmas.{between_sound}
use Rattle.vortex_arrays_rebuild.proofs.trim.trim_slots.Goals as goal

pub of_list_views-requires : goal.of_list_views-requires
of_list_views-requires c =
    let s = c.args.slots.now in
    λ _ _ _. rw (c.in_ok-sizes.ensures.cases, c.in_ok-validity.ensures.cases)
    (between_sound s.elements.now s.offsets.now s.sizes.now s.is_zero_copy_to_list (valid_of s.validity.now) c.in_ok-elements.elements c.in_ok-offsets.offsets c.args.start c.args.end c.requires.sound c.requires.between c.in_ok-elements.ensures.made.2 c.in_ok-offsets.ensures.made)
