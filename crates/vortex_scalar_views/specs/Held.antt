-- Raw values of views of unions and of `Variant` values, and null for none.
use Rattle.std.specs.Prelude.{Option, Some, None}
use Rattle.std.specs.Borrow.{Bor}
use Rattle.vortex_model.specs.Content.{Raw, raw_null}
use Rattle.vortex_scalar_value.specs.View.{raw_of_union, raw_of_variant}
use Rattle.vortex_scalar_value.specs.declared.union_value.UnionValue.{UnionValue}
use Rattle.vortex_scalar_value.specs.declared.variant_value.VariantValue.{VariantValue}

abbrev pub raw_of_choice : Option (Bor UnionValue) → Raw
raw_of_choice None = raw_null
raw_of_choice (Some u) = raw_of_union u.now

abbrev pub raw_of_whichever : Option (Bor VariantValue) → Raw
raw_of_whichever None = raw_null
raw_of_whichever (Some v) = raw_of_variant v.now
