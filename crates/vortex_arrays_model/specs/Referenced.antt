-- Which values of a dictionary its codes refer to.
use Rattle.std.specs.Prelude.{◌≡◌, ◌<◌, ℕ, pos, Bool, not, List, slice_index_or}
use Rattle.vortex_model.specs.Content.{Content, integer}
use Rattle.vortex_arrays_model.specs.Layout.{Layout, len_of, content_at, IsReferenced}

-- bit j is b exactly where one of the first n codes is j
pub record MarksReferenced (c : Layout) (n : ℕ) (b : Bool) (mask : List Bool) : Type 0 where
  pub referenced : (j : ℕ) → slice_index_or mask j (not b) ≡ b → IsReferenced c n j
  pub marked : (i j : ℕ) → i < n → content_at c i ≡ integer (pos j) →
      slice_index_or mask j (not b) ≡ b

-- a content occurs in some row
pub record Occurs (a : Layout) (x : Content) : Type 0 where
  pub row : ℕ
  pub within : row < len_of a
  pub stands : content_at a row ≡ x

-- a content occurs at some value whose bit is b
pub record OccursMarked (v : Layout) (b : Bool) (mask : List Bool) (x : Content) : Type 0 where
  pub value : ℕ
  pub within : value < len_of v
  pub marked : slice_index_or mask value (not b) ≡ b
  pub stands : content_at v value ≡ x
