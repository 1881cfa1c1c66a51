use Rattle.std.proofs.Common.{◌≡◌, ◌∙◌, true, map, sym, subst}
use Rattle.vortex_model.specs.LogicalType.{list}
use Rattle.vortex_dtype_ptype.specs.View.{nullability_of_flag}
use Rattle.vortex_scalar_value.specs.View.{raw_at}
use Rattle.vortex_arrays_model.specs.Layout.{list_views, array_type_of}
use Rattle.vortex_arrays_model.specs.Canonical.{counts}
use Rattle.vortex_arrays_core.specs.LayoutOf.{valid_of}
use Rattle.vortex_arrays_builder.specs.Plain.{IsPlain}
use Rattle.vortex_arrays_builder.proofs.ListLemmas.{sound, plain_lists}
use Rattle.vortex_arrays_builder.proofs.nested.of_lists.Goals as goal

pub of_list_views-requires : goal.of_list_views-requires
of_list_views-requires c =
    λ _ _ _. rw (c.in_ok-offsets.ensures.made, c.in_ok-sizes.ensures.made)
    (sound (array_type_of c.args.elements) (nullability_of_flag c.args.nullability) (map raw_at c.args.values.now) c.args.elements c.args.lists.offsets.items c.args.lists.sizes.items (valid_of c.in_ok-validity.validity)
    c.requires.elements c.requires.lists c.requires.held c.in_ok-validity.ensures c.in_ok-offsets.ensures.held c.in_ok-sizes.ensures.held)

pub returns : goal.returns
returns c =
    let offsets : c.in_ok-offsets.offsets ≡ counts c.args.lists.offsets.items = c.in_ok-offsets.ensures.made in
    let sizes : c.in_ok-sizes.sizes ≡ counts c.args.lists.sizes.items = c.in_ok-sizes.ensures.made in
    let made : c.in_ok-array.array ≡ list_views c.args.elements (counts c.args.lists.offsets.items) (counts c.args.lists.sizes.items) true (valid_of c.in_ok-validity.validity) =
    c.in_ok-array.ensures ∙ (λ i. list_views c.args.elements (offsets i) (sizes i) true (valid_of c.in_ok-validity.validity)) in
    subst (IsPlain (list (array_type_of c.args.elements) (nullability_of_flag c.args.nullability)) (map raw_at c.args.values.now)) (sym made)
    (plain_lists (array_type_of c.args.elements) (nullability_of_flag c.args.nullability) (map raw_at c.args.values.now) c.args.elements c.args.lists.offsets.items c.args.lists.sizes.items (valid_of c.in_ok-validity.validity)
    c.requires.elements c.requires.lists c.requires.held c.in_ok-validity.ensures c.in_ok-offsets.ensures.held c.in_ok-sizes.ensures.held)
