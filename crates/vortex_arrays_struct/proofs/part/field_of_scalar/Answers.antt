use Rattle.std.proofs.Common.{◌≡◌, true, Some, sym, ap, ◌∙◌}
use Rattle.vortex_model.specs.LogicalType.{LogicalType, Fields, nullability_of, either_nullable, with_nullability}
use Rattle.vortex_model.specs.Content.{Raw}
use Rattle.vortex_model.specs.Valid.{valid}
use Rattle.vortex_dtype_core.specs.Parts.{fields_in_type}
use Rattle.vortex_dtype_core.specs.View.{type_of, fields_in}
use Rattle.vortex_scalar_core.specs.Scalar.{scalar_type, scalar_raw}
use Rattle.vortex_scalar_value.specs.Parts.{raw_part}
use Rattle.vortex_scalar_value.specs.View.{raw_in}
use Rattle.vortex_arrays_struct.proofs.Constants.{field_valid}
use Rattle.vortex_arrays_struct.proofs.Parts.{part_of_constant}
use Rattle.vortex_arrays_struct.proofs.part.field_of_scalar.Goals as goal

pub new_unchecked-requires : goal.new_unchecked-requires
new_unchecked-requires c =
    let k : LogicalType = scalar_type c.args.scalar.now in
    let r : Raw = scalar_raw c.args.scalar.now in
    let fs : Fields = fields_in c.in-Some.fields.now in
    let t : LogicalType = type_of c.in-Some-field_by_index.dtype.now in
    let e : Some fs ≡ fields_in_type k = c.in-Some.ensures ∙ ap fields_in_type c.dtype.ensures in
    let h : valid k r ≡ true = ap (valid k) (sym c.value.ensures.value) ∙ c.value.ensures.is_valid in
    let made : type_of c.in_ok-dtype.dtype ≡ with_nullability (either_nullable (nullability_of t) (nullability_of k)) t = c.in_ok-dtype.ensures ∙ ap (λ m. with_nullability (either_nullable (nullability_of t) m) t) (c.nullability.ensures ∙ ap nullability_of c.dtype-2.ensures) in
    let taken : raw_in c.in_ok-value.value ≡ raw_part r c.args.position = c.in_ok-value.ensures ∙ c.value_at.ensures ∙ ap (λ y. raw_part y c.args.position) c.value.ensures.value in
    (λ j. valid (made j) (taken j)) ∙ field_valid k fs r c.args.position t e c.in-Some-field_by_index.ensures h

pub returns : goal.returns
returns c =
    let k : LogicalType = scalar_type c.args.scalar.now in
    let r : Raw = scalar_raw c.args.scalar.now in
    let fs : Fields = fields_in c.in-Some.fields.now in
    let t : LogicalType = type_of c.in-Some-field_by_index.dtype.now in
    let e : Some fs ≡ fields_in_type k = c.in-Some.ensures ∙ ap fields_in_type c.dtype.ensures in
    let h : valid k r ≡ true = ap (valid k) (sym c.value.ensures.value) ∙ c.value.ensures.is_valid in
    let made : scalar_type c.new_unchecked.result ≡ with_nullability (either_nullable (nullability_of t) (nullability_of k)) t = c.new_unchecked.ensures.dtype ∙ c.in_ok-dtype.ensures ∙ ap (λ m. with_nullability (either_nullable (nullability_of t) m) t) (c.nullability.ensures ∙ ap nullability_of c.dtype-2.ensures) in
    let taken : scalar_raw c.new_unchecked.result ≡ raw_part r c.args.position = c.new_unchecked.ensures.value ∙ c.in_ok-value.ensures ∙ c.value_at.ensures ∙ ap (λ y. raw_part y c.args.position) c.value.ensures.value in
    λ n. part_of_constant k fs r (scalar_raw c.new_unchecked.result) c.args.position t (scalar_type c.new_unchecked.result) n e c.in-Some-field_by_index.ensures h made taken
