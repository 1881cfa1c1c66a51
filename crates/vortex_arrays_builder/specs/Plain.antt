-- An array of values in plain layout.
use Rattle.std.specs.Prelude.{◌≡◌, ◌<◌, ℕ, suc, ℤ, pos, List, length, map, Bool, true, false, not, slice_index_or}
use Rattle.vortex_model.specs.LogicalType.{LogicalType, Fields, no_fields, field, Nullability, non_nullable, nullable}
use Rattle.vortex_model.specs.Content.{Content, content_of, is_null, Raw, raw_null, raw_boolean, raw_number}
use Rattle.vortex_model.specs.Valid.{valid}
use Rattle.vortex_scalar_value.specs.Parts.{raw_part}
use Rattle.vortex_arrays_view.specs.declared.error.ArrayError.{ArrayError}
use Rattle.vortex_arrays_view.specs.declared.error.ArrayError.TheVariants as error
use Rattle.vortex_arrays_model.specs.Layout.{Layout, Valid, Columns, no_columns, column, len_of, array_type_of, content_at, is_valid, nullability_by, IsSound, HasLength}
use Rattle.vortex_arrays_builder.specs.TooLarge.{AreTooLarge}
use Rattle.vortex_arrays_builder.specs.Types.{IsPlainLayout}

-- the raw value is null or one of the type
abbrev pub is_held : LogicalType → Raw → Bool
is_held k raw_null = true
is_held k r = valid k r

-- A value of another type counts as false, and is no row's content.
abbrev pub boolean_or_false : Raw → Bool
boolean_or_false (raw_boolean b) = b
boolean_or_false r = false

abbrev pub whole_or_zero : Raw → ℤ
whole_or_zero (raw_number j z) = z
whole_or_zero r = pos 0

-- whether a row is not null, in a column of this nullability
abbrev pub is_there : Nullability → Raw → Bool
is_there non_nullable r = true
is_there nullable r = not (is_null (content_of r))

-- v has a row for each value, null where the value is, if the nullability has null
pub record MarksNulls (n : Nullability) (rs : List Raw) (v : Valid) : Type 0 where
  pub fits : HasLength v (length rs)
  pub nullability : nullability_by v ≡ n
  pub bits : (i : ℕ) → i < length rs → is_valid v i ≡ is_there n (slice_index_or rs i raw_null)

-- a is of the type and plain, with a row for each value: the value's content, where the type has
-- the value
pub record IsPlain (k : LogicalType) (rs : List Raw) (a : Layout) : Type 0 where
  pub sound : IsSound a
  pub len : len_of a ≡ length rs
  pub kind : array_type_of a ≡ k
  pub layout : IsPlainLayout a
  pub content : (i : ℕ) → i < length rs → valid k (slice_index_or rs i raw_null) ≡ true →
      content_at a i ≡ content_of (slice_index_or rs i raw_null)

-- the parts of structs at a position
abbrev pub parts_at : ℕ → List Raw → List Raw
parts_at i rs = map (λ r. raw_part r i) rs

-- a column for each field, plain, of the structs' values from a position on
abbrev pub ArePlain : Fields → ℕ → List Raw → Columns → Type 0
ArePlain no_fields i rs no_columns = Unit {0}
ArePlain (field x k fs) i rs (column y a cs) =
    (y ≡ x) × IsPlain k (parts_at i rs) a × ArePlain fs (suc i) rs cs
ArePlain fs i rs cs = ⊥

-- why rows have no plain layout
abbrev pub IsPlainFault : ArrayError → LogicalType → List Content → Type 0
IsPlainFault error.Memory k rows = Unit {0}
IsPlainFault error.Total k rows = AreTooLarge k rows
IsPlainFault e k rows = ⊥
