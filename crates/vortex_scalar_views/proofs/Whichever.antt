-- `Variant` values.
use Rattle.std.proofs.Common.{◌≡◌, true, Option, Some, None, option_map, Bor, refl}
use Rattle.vortex_model.specs.LogicalType.{LogicalType, variant}
use Rattle.vortex_model.specs.Content.{Raw, raw_null, raw_scalar}
use Rattle.vortex_model.specs.Valid.{valid}
use Rattle.vortex_dtype_core.specs.Parts.{is_variant_type}
use Rattle.vortex_scalar_value.specs.Parts.{as_scalar}
use Rattle.vortex_scalar_value.specs.View.{raw_of_variant}
use Rattle.vortex_scalar_value.specs.declared.variant_value.VariantValue.{VariantValue}
use Rattle.vortex_scalar_value.proofs.Views as values
use Rattle.vortex_scalar_value.proofs.Nulls as nulls
use Rattle.vortex_scalar_views.specs.Held.{raw_of_whichever}

pub variant_held : (k : LogicalType) (r : Raw) (o : Option (Bor VariantValue)) → is_variant_type k ≡ true → valid k r ≡ true → option_map (λ v. raw_of_variant v.now) o ≡ as_scalar r → raw_of_whichever o ≡ r
variant_held k raw_null None h v e = refl
variant_held k raw_null (Some w) h v e = absurd (cc (e))
variant_held k (raw_scalar l r) None h v e = absurd (cc (e))
variant_held k (raw_scalar l r) (Some w) h v e = cc (e)
variant_held (variant n) r o h v e = absurd (cc (v))
variant_held k r o h v e = absurd (cc (h))

pub ruleset held = (values.one_level, variant_held)

pub inner_valid : (k l : LogicalType) (r : Raw) → is_variant_type k ≡ true → valid k (raw_scalar l r) ≡ true → valid l r ≡ true
inner_valid (variant n) l r h v = v
inner_valid k l r h v = absurd (cc (h))

pub ruleset inner = (nulls.never_null, inner_valid)
