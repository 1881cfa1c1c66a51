-- Integers that are indices, the bits at them, and lists of the indices of true bits.
use Rattle.std.specs.Prelude.{ℕ, ℤ, pos, ◌≡◌, ◌+◌, ◌<◌, ◌++◌, List, Bool, false, length, take, count_by, slice_index_or, IsTrue}
use Rattle.vortex_arrays_buffer.specs.Bits.{positions_from}

-- From index m up to n the new list has the indices of the true bits, where the first bit is at
-- `at`. Before m it is the old list.
pub record AddsPlaces (old : List ℕ) (m at : ℕ) (bits : List Bool) (new : List ℕ) (n : ℕ) : Type 0 where
  pub placed : take n new ≡ take m old ++ positions_from at bits
  pub counted : n ≡ m + count_by (λ b. b) bits
  pub same : length new ≡ length old

-- an integer is an index below n
abbrev pub IsPlace : ℕ → ℤ → Type 0
IsPlace n (pos i) = i < n
IsPlace n z = ⊥

-- each integer whose bit is true is an index below n
abbrev pub ArePlacesWhere : List Bool → ℕ → List ℤ → Type 0
ArePlacesWhere bits n zs = (i : ℕ) → i < length zs → IsTrue (slice_index_or bits i false) → IsPlace n (slice_index_or zs i (pos 0))

-- the bit at an integer, and false where the integer is no index
abbrev pub bit_at_number : List Bool → ℤ → Bool
bit_at_number bits (pos i) = slice_index_or bits i false
bit_at_number bits z = false
