-- Offsets and sizes read as native integers.
use Rattle.std.specs.Prelude.{◌≡◌, ◌<◌, ◌≤◌, ℕ, pos, List, length, slice_index_or}
use Rattle.vortex_model.specs.Content.{Content, integer}
use Rattle.vortex_arrays_model.specs.Layout.{Layout, len_of, content_at, number_in}

-- an integer from 0 to n
abbrev pub IsAtMost : ℕ → Content → Type 0
IsAtMost n (integer (pos i)) = i ≤ n
IsAtMost n c = ⊥

-- each row is an integer from 0 to n
abbrev pub AreAtMost : ℕ → Layout → Type 0
AreAtMost n a = (i : ℕ) → i < len_of a → IsAtMost n (content_at a i)

-- xs are the integers of a
pub record AreRead (a : Layout) (xs : List ℕ) : Type 0 where
  pub many : length xs ≡ len_of a
  pub each : (i : ℕ) → i < len_of a → slice_index_or xs i 0 ≡ number_in (content_at a i)
