-- Which rows of an array are null.
use Rattle.std.specs.Prelude.{◌≡◌, ◌<◌, ℕ, not}
use Rattle.vortex_model.specs.LogicalType.{nullability_of}
use Rattle.vortex_model.specs.Content.{is_null}
use Rattle.vortex_arrays_model.specs.Layout.{Layout, constant, dictionary, Valid, len_of, array_type_of, nullability_by, content_at, is_valid, HasLength}

-- the layout has a validity itself
abbrev pub HasValidity : Layout → Type 0
HasValidity (constant k r n) = ⊥
HasValidity (dictionary c v f) = ⊥
HasValidity a = Unit {0}

-- v has null exactly at the null rows of the array, and the nullability of its type
pub record TellsNullsOf (a : Layout) (v : Valid) : Type 0 where
  pub fits : HasLength v (len_of a)
  pub nullability : nullability_by v ≡ nullability_of (array_type_of a)
  pub rows : (i : ℕ) → i < len_of a → is_valid v i ≡ not (is_null (content_at a i))
