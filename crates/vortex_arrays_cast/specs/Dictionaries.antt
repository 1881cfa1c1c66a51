-- Values at the codes of a dictionary.
use Rattle.std.specs.Prelude.{ℕ, ℤ, pos, List, map, slice_index_or}
use Rattle.vortex_arrays_model.specs.Layout.{Layout}
use Rattle.vortex_arrays_validity.specs.Places.{places_or}

-- the index that each code is, and 0 for null
abbrev pub places_of : Layout → List ℕ
places_of c = places_or 0 c

-- the integers at the indices
abbrev pub integers_at : List ℤ → List ℕ → List ℤ
integers_at zs places = map (λ i. slice_index_or zs i (pos 0)) places
