-- A nullable type has each value of its non-nullable form.
use Rattle.std.proofs.Common.{◌≡◌, true, refl, ap, ◌∙◌}
use Rattle.vortex_model.specs.LogicalType.{LogicalType, nullable, is_nullable, with_nullability}
use Rattle.vortex_model.specs.Content.{Raw, raw_null, raw_boolean, raw_number, raw_text, raw_byte_string, raw_tuple, raw_tagged, raw_scalar}
use Rattle.vortex_model.specs.Valid.{valid}
use Rattle.vortex_dtype_core.proofs.Views.{nullability_of-with_nullability}
use Rattle.vortex_scalar_ops.proofs.KeptValues.{outside}
use Rattle.vortex_scalar_ops.proofs.Views.{has-null}

pub nullable_has : (k : LogicalType) (r : Raw) → valid k r ≡ true → valid (with_nullability nullable k) r ≡ true
nullable_has k raw_null h = has-null (with_nullability nullable k) ∙ ap is_nullable (nullability_of-with_nullability nullable k (λ e. absurd (cc (e))))
nullable_has k (raw_boolean b) h = outside k (raw_boolean b) refl ∙ h
nullable_has k (raw_number i z) h = outside k (raw_number i z) refl ∙ h
nullable_has k (raw_text bs) h = outside k (raw_text bs) refl ∙ h
nullable_has k (raw_byte_string bs) h = outside k (raw_byte_string bs) refl ∙ h
nullable_has k (raw_tuple rs) h = outside k (raw_tuple rs) refl ∙ h
nullable_has k (raw_tagged t r) h = outside k (raw_tagged t r) refl ∙ h
nullable_has k (raw_scalar l r) h = outside k (raw_scalar l r) refl ∙ h

pub ruleset kept = (nullable_has)

pub null_is_there : (k : LogicalType) → valid (with_nullability nullable k) raw_null ≡ true
null_is_there k = has-null (with_nullability nullable k) ∙ ap is_nullable (nullability_of-with_nullability nullable k (λ e. absurd (cc (e))))

pub ruleset lifted = (nullable_has, null_is_there)
