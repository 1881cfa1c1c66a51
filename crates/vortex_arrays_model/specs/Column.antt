-- The column of a struct array at a path.
use Rattle.std.specs.Prelude.{◌≡◌, ◌<◌, ℕ, zero, suc, map, cond, ◌&&◌, Option, Some, None}
use Rattle.vortex_model.specs.LogicalType.{either_nullable, nullable_inside}
use Rattle.vortex_model.specs.Content.{null}
use Rattle.vortex_model.specs.Path.{Names, Positions, type_at, at, type_of_column, column as column_value}
use Rattle.vortex_arrays_model.specs.Layout.{Layout, Valid, Columns, no_columns, column, len_of, array_type_of, nullability_by, content_at, is_valid, rows_of, IsSound, HasLength}

-- r is the column at a path of names: its rows are the values there in the rows of a, and its type
-- is the type there
pub record IsColumn (a : Layout) (xs : Names) (r : Layout) : Type 0 where
  pub sound : IsSound r
  pub kind : type_of_column (array_type_of a) xs ≡ Some (array_type_of r)
  pub rows : rows_of r ≡ map (column_value (array_type_of a) xs) (rows_of a)

-- r is the column at a path of positions
pub record IsPart (a : Layout) (is : Positions) (r : Layout) : Type 0 where
  pub sound : IsSound r
  pub len : len_of r ≡ len_of a
  pub kind : type_at (array_type_of a) is ≡ Some (array_type_of r)
  pub content : (i : ℕ) → i < len_of a → content_at r i ≡ at (content_at a i) is

-- the array of the column at a position
abbrev pub array_at : Columns → ℕ → Option Layout
array_at no_columns i = None
array_at (column x a cs) zero = Some a
array_at (column x a cs) (suc i) = array_at cs i

-- r is b with the rows null that are null in v
pub record IsMasked (v : Valid) (b r : Layout) : Type 0 where
  pub sound : IsSound r
  pub len : len_of r ≡ len_of b
  pub kind : array_type_of r ≡ nullable_inside (nullability_by v) (array_type_of b)
  pub content : (i : ℕ) → i < len_of b → content_at r i ≡ cond (is_valid v i) (content_at b i) null

-- a row is null in u where it is null in v or in w
pub record IsValidInBoth (v w u : Valid) (n : ℕ) : Type 0 where
  pub fits : HasLength u n
  pub nullability : nullability_by u ≡ either_nullable (nullability_by v) (nullability_by w)
  pub bits : (i : ℕ) → i < n → is_valid u i ≡ (is_valid v i && is_valid w i)
