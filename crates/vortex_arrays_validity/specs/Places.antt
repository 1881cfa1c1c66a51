-- Integers as indices.
use Rattle.std.specs.Prelude.{◌≡◌, ◌≢◌, ◌<◌, ℕ, ℤ, pos, Bool, cond, List, map, slice_index_or}
use Rattle.std.specs.List.{zip}
use Rattle.vortex_model.specs.Content.{Content, null, integer}
use Rattle.vortex_arrays_model.specs.Layout.{Layout, rows_of}

-- the index that an integer is, and n for a negative one
abbrev pub number_or : ℕ → ℤ → ℕ
number_or n (pos i) = i
number_or n z = n

-- the index that a content is, and n for any other
abbrev pub place_or : ℕ → Content → ℕ
place_or n (integer z) = number_or n z
place_or n c = n

-- each row as an index
abbrev pub places_or : ℕ → Layout → List ℕ
places_or n a = map (place_or n) (rows_of a)

-- the content at i as an index, and n where there is none
abbrev pub place_at : ℕ → List Content → ℕ → ℕ
place_at n cs i = place_or n (slice_index_or cs i null)

-- the rows at the indices as indices
abbrev pub places_at : ℕ → Layout → List ℕ → List ℕ
places_at n a indices = map (place_at n (rows_of a)) indices

-- the integers as indices, and n in place of each whose row is false
abbrev pub numbers_where : ℕ → List ℤ → List Bool → List ℕ
numbers_where n zs rows = map (λ p. cond p.1 (number_or n p.0) n) (zip zs rows)

-- none of the first n indices is j
abbrev pub IsUnnamed : List ℕ → ℕ → ℕ → Type 0
IsUnnamed places n j = (k : ℕ) → k < n → slice_index_or places k 0 ≢ j

-- of the first n indices, index number k is the last that is j
pub record IsNamedLast (places : List ℕ) (n j k : ℕ) : Type 0 where
  pub within : k < n
  pub names : slice_index_or places k 0 ≡ j
  pub last : (l : ℕ) → k < l → l < n → slice_index_or places l 0 ≢ j
