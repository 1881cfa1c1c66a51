-- The values inside unions' values and `Variant` values, with their types.
use Rattle.std.specs.Prelude.{ℕ, ℤ, Option, Some, None, option_and_then}
use Rattle.vortex_model.specs.LogicalType.{LogicalType, Variants, type_tagged}
use Rattle.vortex_model.specs.Content.{Raw, raw_tagged, raw_scalar}
use Rattle.vortex_dtype_core.specs.Parts.{variants_in_type}
use Rattle.vortex_dtype_fields.specs.Records.{tag_position}
use Rattle.vortex_scalar_views.specs.Forms.{Typed}

-- the tag of a union's value
abbrev pub tag_of : Raw → Option ℤ
tag_of (raw_tagged t r) = Some t
tag_of r = None

-- the index of the variant with the tag of a union's value
abbrev pub index_of_choice : Typed → Option ℕ
index_of_choice t = option_and_then
    (λ vs. option_and_then (λ tag. tag_position vs tag) (tag_of t.1)) (variants_in_type t.0)

-- the value inside a union's value, with the type of the tag's variant
abbrev pub child_under : Variants → Raw → Option Typed
child_under vs (raw_tagged t r) = Some (type_tagged vs t, r)
child_under vs r = None

abbrev pub child_of : Typed → Option Typed
child_of t = option_and_then (λ vs. child_under vs t.1) (variants_in_type t.0)

-- the value inside a `Variant` value, with its type
abbrev pub inner_of : Raw → Option Typed
inner_of (raw_scalar k r) = Some (k, r)
inner_of r = None
