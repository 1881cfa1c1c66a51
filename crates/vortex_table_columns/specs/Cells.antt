-- Cells: values, and none for null.
use Rattle.std.specs.Prelude.{◌≡◌, ◌<◌, ℕ, List, length, Option, Some, None, is_some, slice_index_or}
use Rattle.vortex_model.specs.LogicalType.{LogicalType, Nullability}
use Rattle.vortex_model.specs.Content.{Raw, raw_null}
use Rattle.vortex_arrays_model.specs.Layout.{Layout, Valid, len_of, array_type_of, is_valid, nullability_by, IsSound, HasLength}
use Rattle.vortex_arrays_core.specs.RawRows.{raw_row}

abbrev pub cell_raw : {A : Type 0} → (A → Raw) → Option A → Raw
cell_raw f None = raw_null
cell_raw f (Some a) = f a

-- v fits the cells, and is null where they are
pub record MarksCells {A : Type 0} (n : Nullability) (cells : List (Option A)) (v : Valid) : Type 0
  where
    pub fits : HasLength v (length cells)
    pub nullability : nullability_by v ≡ n
    pub bits : (i : ℕ) → i < length cells → is_valid v i ≡ is_some (slice_index_or cells i None)

-- the array is of the type, and its rows are these raw values
pub record IsColumn (k : LogicalType) (rs : List Raw) (a : Layout) : Type 0 where
  pub sound : IsSound a
  pub kind : array_type_of a ≡ k
  pub len : len_of a ≡ length rs
  pub rows : (i : ℕ) → i < length rs → raw_row a i ≡ slice_index_or rs i raw_null
