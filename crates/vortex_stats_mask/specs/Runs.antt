-- Masks whose first rows are set.
use Rattle.std.specs.Prelude.{◌≡◌, ◌<◌, ℕ, List, Bool, false, length, slice_index_or}

-- of `many` rows the first n are as P has it
pub record Says (P : ℕ → Bool → Type 0) (mask : List Bool) (n many : ℕ) : Type 0 where
  pub rows : (i : ℕ) → i < n → P i (slice_index_or mask i false)
  pub count : length mask ≡ many
