-- Columns as dictionaries.
use Rattle.std.specs.Prelude.{◌≡◌, ◌<◌, ◌-◌, ℕ, ℤ, pos, List, length, true, false, not, slice_index_or}
use Rattle.vortex_model.specs.LogicalType.{IntKind}
use Rattle.vortex_model.specs.Content.{Content, null, is_null}
use Rattle.vortex_dtype_ptype.specs.Numbers.{HoldsNarrowly}
use Rattle.vortex_arrays_model.specs.Layout.{Layout, dictionary, numbers, Valid, is_valid, rows_of}
use Rattle.vortex_arrays_builder.specs.Types.{IsPlainLayout}
use Rattle.vortex_arrays_dictionary.specs.Distinct.{distinct}

-- A dictionary of the contents: its values are the distinct ones, in plain layout; its codes are of
-- the narrowest unsigned type that has them, and null where the content is. The code of a row
-- follows from its content.
pub record IsDictionaryOf (cs : List Content) (a : Layout) : Type 0 where
  pub kind : IntKind
  pub codes : List ℤ
  pub nulls : Valid
  pub values : Layout
  pub made : a ≡ dictionary (numbers kind codes nulls) values false
  pub rows : rows_of a ≡ cs
  pub each_once : rows_of values ≡ distinct cs
  pub plain : IsPlainLayout values
  pub narrow : HoldsNarrowly true (pos (length (distinct cs) - 1)) kind
  pub null_codes : (i : ℕ) → i < length cs →
      is_valid nulls i ≡ not (is_null (slice_index_or cs i null))
