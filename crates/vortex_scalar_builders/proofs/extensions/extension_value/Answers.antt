use Rattle.std.proofs.Common.{◌≡◌, ◌∙◌, sym, ap, true, rules}
use Rattle.vortex_model.specs.LogicalType.{eq_type}
use Rattle.vortex_model.specs.Valid.{valid}
use Rattle.vortex_dtype_core.specs.Equal.{eq_type-decides}
use Rattle.vortex_dtype_core.specs.Parts.{storage_of}
use Rattle.vortex_dtype_core.specs.View.{type_of, extension_type}
use Rattle.vortex_dtype_core.proofs.Views.{type_of-Extension}
use Rattle.vortex_scalar_value.specs.View.{raw_in}
use Rattle.vortex_scalar_builders.proofs.Made.{valid-storage}
use Rattle.vortex_scalar_builders.proofs.extensions.extension_value.Goals as goal

pub new_unchecked-requires : goal.new_unchecked-requires
new_unchecked-requires c =
    let tested : eq_type (type_of c.into_parts-dtype.result.0) (type_of c.storage_dtype.result.now) ≡ true = search rules in
    let same : type_of c.into_parts-dtype.result.0 ≡ storage_of (extension_type c.args.extension)
    = (eq_type-decides (type_of c.into_parts-dtype.result.0) (type_of c.storage_dtype.result.now)).0 tested ∙ c.storage_dtype.ensures in
    let value = raw_in c.into_parts-dtype.result.1 in
    ap (λ k. valid k value) (type_of-Extension c.args.extension) ∙ valid-storage c.args.extension value ∙ sym (ap (λ k. valid k value) same) ∙ c.into_parts-dtype.ensures.is_valid
