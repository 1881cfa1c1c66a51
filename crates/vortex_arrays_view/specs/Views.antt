-- What the sixteen bytes of a view mean.
use Rattle.std.specs.Prelude.{◌≡◌, ◌≤◌, ◌<◌, ◌+◌, ℕ, List, [], take, drop, length, cond, leb, slice_index_or}
use Rattle.std.specs.Int.{w32, from_le_bytes}

-- the length of the value
abbrev pub size_of : List ℕ → ℕ
size_of b = from_le_bytes w32 (take 4 b)

-- the index of the buffer of a long value
abbrev pub index_of : List ℕ → ℕ
index_of b = from_le_bytes w32 (take 4 (drop 8 b))

-- the offset of a long value in its buffer
abbrev pub offset_of : List ℕ → ℕ
offset_of b = from_le_bytes w32 (take 4 (drop 12 b))

-- the value of a short view
abbrev pub inlined_of : List ℕ → List ℕ
inlined_of b = take (size_of b) (drop 4 b)

-- the value of a view beside these buffers
abbrev pub value_of : List ℕ → List (List ℕ) → List ℕ
value_of b buffers = cond (leb (size_of b) 12) (inlined_of b)
    (take (size_of b) (drop (offset_of b) (slice_index_or buffers (index_of b) [])))

-- A long view is within one of the buffers, and has the first four bytes of its value.
pub record HasValue (b : List ℕ) (buffers : List (List ℕ)) : Type 0 where
  pub there : 12 < size_of b → index_of b < length buffers
  pub inside : 12 < size_of b →
      offset_of b + size_of b ≤ length (slice_index_or buffers (index_of b) [])
  pub prefix : 12 < size_of b → take 4 (drop 4 b) ≡ take 4 (value_of b buffers)
