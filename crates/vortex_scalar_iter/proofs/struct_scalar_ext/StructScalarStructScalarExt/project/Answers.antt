use Rattle.std.proofs.Common.{◌∙◌, ap}
use Rattle.vortex_model.specs.Valid.{valid}
use Rattle.vortex_dtype_core.specs.Parts.{fields_in_type}
use Rattle.vortex_dtype_core.specs.View.{type_of, fields_in}
use Rattle.vortex_scalar_value.specs.View.{raw_in}
use Rattle.vortex_scalar_nested.specs.Held.{raw_of_items}
use Rattle.vortex_scalar_iter.proofs.Records.{projected_valid}
use Rattle.vortex_scalar_iter.proofs.struct_scalar_ext.StructScalarStructScalarExt.project.Goals as goal

pub new_unchecked-requires : goal.new_unchecked-requires
new_unchecked-requires c =
    projected_valid (type_of c.dtype.result.now) (type_of c.in_ok-dtype.dtype) (fields_in c.struct_fields-fields.result.now) (raw_of_items c.stored_values.result) (raw_in c.in_ok-value.value) c.args.names.now
    (ap (λ k. fields_in_type k) c.dtype.ensures ∙ c.struct_fields-fields.ensures) (ap (λ k. valid k (raw_of_items c.stored_values.result)) c.dtype.ensures ∙ c.stored_values.ensures.is_valid)
    c.in_ok-dtype.ensures.made c.in_ok-value.ensures.made
