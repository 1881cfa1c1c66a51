-- The Rust types of this crate in the model.
use Rattle.std.specs.Prelude.{List, [], ◌∷◌, map, Option, Some, None}
use Rattle.std.specs.Borrow.{Bor}
use Rattle.std.specs.declared.boxed.Box.{Box}
use Rattle.std.specs.declared.alloc.Global.{Global}
use Rattle.vortex_model.specs.Content.{Content, content_of, Raw, raw_null, raw_boolean, raw_text, raw_byte_string, raw_tuple, raw_tagged, raw_scalar, Raws, no_raws, raw_first}
use Rattle.vortex_dtype_core.specs.View.{type_of}
use Rattle.vortex_scalar_value.specs.Numbers.{raw_of_number}
use Rattle.vortex_scalar_value.specs.declared.scalar_value.ScalarValue.{ScalarValue, fold-ScalarValue}
use Rattle.vortex_scalar_value.specs.declared.scalar_value.ScalarValue.TheOpen.{ScalarValue-F, UnionValue-F, VariantValue-F}
use Rattle.vortex_scalar_value.specs.declared.union_value.UnionValue.{UnionValue, fold-UnionValue}
use Rattle.vortex_scalar_value.specs.declared.variant_value.VariantValue.{VariantValue, fold-VariantValue}

abbrev pub or_null : Option Raw → Raw
or_null None = raw_null
or_null (Some r) = r

-- the boxed raw value, or null
abbrev pub boxed_or_null : Option (Box Raw Global) → Raw
boxed_or_null None = raw_null
boxed_or_null (Some b) = b.value

abbrev pub raws_from : List Raw → Raws
raws_from [] = no_raws
raws_from (r ∷ rs) = raw_first r (raws_from rs)

-- one level of a value, where the values inside are in the model
abbrev pub raw_step : ScalarValue-F Raw Raw Raw → Raw
raw_step (ScalarValue-F.Bool b) = raw_boolean b
raw_step (ScalarValue-F.Primitive v) = raw_of_number v
raw_step (ScalarValue-F.Utf8 t) = raw_text t
raw_step (ScalarValue-F.Binary b) = raw_byte_string b
raw_step (ScalarValue-F.Tuple v) = raw_tuple (raws_from (map or_null v.items))
raw_step (ScalarValue-F.Union u) = u
raw_step (ScalarValue-F.Variant v) = v.value

abbrev pub union_step : UnionValue-F Raw Raw Raw → Raw
union_step u = raw_tagged u.type_id (boxed_or_null u.child)

abbrev pub variant_step : VariantValue-F Raw Raw Raw → Raw
variant_step v = raw_scalar (type_of v.dtype) (or_null v.value)

-- a `ScalarValue` in the model
abbrev pub raw_of : ScalarValue → Raw
raw_of = fold-ScalarValue Raw Raw Raw raw_step union_step variant_step

-- a `UnionValue` in the model
abbrev pub raw_of_union : UnionValue → Raw
raw_of_union = fold-UnionValue Raw Raw Raw raw_step union_step variant_step

-- a `VariantValue` in the model
abbrev pub raw_of_variant : VariantValue → Raw
raw_of_variant = fold-VariantValue Raw Raw Raw raw_step union_step variant_step

-- a `ScalarValue` in the model, or null
abbrev pub raw_in : Option ScalarValue → Raw
raw_in None = raw_null
raw_in (Some v) = raw_of v

-- a borrowed `ScalarValue` in the model, or null
abbrev pub raw_at : Option (Bor ScalarValue) → Raw
raw_at None = raw_null
raw_at (Some r) = raw_of r.now

-- a boxed `ScalarValue` in the model, or null
abbrev pub raw_boxed : Option (Box ScalarValue Global) → Raw
raw_boxed None = raw_null
raw_boxed (Some b) = raw_of b.value

abbrev pub raws_in : List (Option ScalarValue) → Raws
raws_in vs = raws_from (map raw_in vs)

-- the content of a value
abbrev pub content_in : Option ScalarValue → Content
content_in v = content_of (raw_in v)

abbrev pub content_at : Option (Bor ScalarValue) → Content
content_at v = content_of (raw_at v)
