use Rattle.std.proofs.Common.{◌≡◌, ◌∙◌, map, length, sym, ap, subst}
use Rattle.std.proofs.lemmas.List.{length-map}
use Rattle.vortex_model.specs.LogicalType.{fixed_list}
use Rattle.vortex_dtype_ptype.specs.View.{nullability_of_flag}
use Rattle.vortex_scalar_value.specs.View.{raw_at}
use Rattle.vortex_arrays_model.specs.Layout.{fixed_lists, array_type_of, IsSound}
use Rattle.vortex_arrays_core.specs.LayoutOf.{valid_of}
use Rattle.vortex_arrays_builder.specs.Plain.{IsPlain}
use Rattle.vortex_arrays_builder.proofs.FixedLemmas.{plain_fixed}
use Rattle.vortex_arrays_builder.proofs.nested.of_fixed_lists.Goals as goal

pub of_fixed_lists-requires : goal.of_fixed_lists-requires
of_fixed_lists-requires c =
    let made = plain_fixed (array_type_of c.args.elements) c.args.size (nullability_of_flag c.args.nullability) (map raw_at c.args.values.now) c.args.elements (valid_of c.in_ok-validity.validity) c.requires.elements c.requires.held c.in_ok-validity.ensures in
    λ _. subst (λ n. IsSound (fixed_lists c.args.elements c.args.size n (valid_of c.in_ok-validity.validity))) (length-map c.args.values.now raw_at) made.sound

pub returns : goal.returns
returns c =
    let same : c.in_ok-array.array ≡ fixed_lists c.args.elements c.args.size (length (map raw_at c.args.values.now)) (valid_of c.in_ok-validity.validity) =
    c.in_ok-array.ensures ∙ ap (λ n. fixed_lists c.args.elements c.args.size n (valid_of c.in_ok-validity.validity)) (sym (length-map c.args.values.now raw_at)) in
    subst (IsPlain (fixed_list (array_type_of c.args.elements) c.args.size (nullability_of_flag c.args.nullability)) (map raw_at c.args.values.now)) (sym same)
    (plain_fixed (array_type_of c.args.elements) c.args.size (nullability_of_flag c.args.nullability) (map raw_at c.args.values.now) c.args.elements (valid_of c.in_ok-validity.validity) c.requires.elements c.requires.held c.in_ok-validity.ensures)
