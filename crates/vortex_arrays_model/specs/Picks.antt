-- Arrays whose rows are rows of another array.
use Rattle.std.specs.Prelude.{◌≡◌, ◌<◌, ℕ, Option, Some, None, Bool, false}
use Rattle.vortex_model.specs.LogicalType.{Nullability, nullability_of, either_nullable, with_nullability}
use Rattle.vortex_model.specs.Content.{Content, null}
use Rattle.vortex_arrays_model.specs.Layout.{number_in, Layout, Valid, Columns, len_of, array_type_of, nullability_by, fields_of, content_at, is_valid, row_at, IsSound, HasLength, HaveLength}

-- r is sound, has the type of a, and has n rows: those of a at the indices f
pub record Picks (a r : Layout) (n : ℕ) (f : ℕ → ℕ) : Type 0 where
  pub sound : IsSound r
  pub len : len_of r ≡ n
  pub kind : array_type_of r ≡ array_type_of a
  pub content : (i : ℕ) → i < n → content_at r i ≡ content_at a (f i)

-- the n rows of w are null where the rows of v at the indices f are
pub record PicksValid (v w : Valid) (n : ℕ) (f : ℕ → ℕ) : Type 0 where
  pub fits : HasLength w n
  pub nullability : nullability_by w ≡ nullability_by v
  pub bits : (i : ℕ) → i < n → is_valid w i ≡ is_valid v (f i)

-- the n rows of ds are those of cs at the indices f, in each column
pub record PicksColumns (cs ds : Columns) (n : ℕ) (f : ℕ → ℕ) : Type 0 where
  pub fit : HaveLength ds n
  pub fields : fields_of ds ≡ fields_of cs
  pub rows : (i : ℕ) → i < n → row_at ds i ≡ row_at cs (f i)

-- the index that a code is, and none for null
abbrev pub position_of : Content → Option ℕ
position_of null = None
position_of c = Some (number_in c)

-- the content at an index, and null for none
abbrev pub content_at_some : Layout → Option ℕ → Content
content_at_some a None = null
content_at_some a (Some i) = content_at a i

-- the row at an index is not null, and there is an index
abbrev pub is_valid_some : Valid → Option ℕ → Bool
is_valid_some v None = false
is_valid_some v (Some i) = is_valid v i

-- r is sound and has n rows: those of a at the indices f, and null where f has none. It has the
-- type of a, nullable also where m is.
pub record PicksSome (a r : Layout) (m : Nullability) (n : ℕ) (f : ℕ → Option ℕ) : Type 0 where
  pub sound : IsSound r
  pub len : len_of r ≡ n
  pub kind : array_type_of r ≡
      with_nullability (either_nullable m (nullability_of (array_type_of a))) (array_type_of a)
  pub content : (i : ℕ) → i < n → content_at r i ≡ content_at_some a (f i)

-- the n rows of w are null where f has no index, or where the row of v at it is null
pub record PicksSomeValid (v w : Valid) (m : Nullability) (n : ℕ) (f : ℕ → Option ℕ) : Type 0 where
  pub fits : HasLength w n
  pub nullability : nullability_by w ≡ either_nullable m (nullability_by v)
  pub bits : (i : ℕ) → i < n → is_valid w i ≡ is_valid_some v (f i)
