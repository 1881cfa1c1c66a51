-- Lists of any size.
use Rattle.std.specs.Prelude.{◌≡◌, ◌+◌, ◌++◌, ℕ, List, [], ◌∷◌, map, flat_map, All}
use Rattle.vortex_arrays_model.specs.Layout.{Layout, numbers, list_views, natural, len_of, IsSound}
use Rattle.vortex_arrays_model.specs.Canonical.{counts}
use Rattle.vortex_arrays_concat.specs.EndToEnd.{rows_in_all}
use Rattle.vortex_arrays_concat.specs.FixedLists.{elements_in}

abbrev pub naturals_in : Layout → List ℕ
naturals_in (numbers k zs v) = map natural zs
naturals_in a = []

-- the offsets of its lists, and their sizes
abbrev pub starts_in : Layout → List ℕ
starts_in (list_views e o s f v) = naturals_in o
starts_in a = []

abbrev pub sizes_in : Layout → List ℕ
sizes_in (list_views e o s f v) = naturals_in s
sizes_in a = []

-- It is a sound array of list views with plain `u64` offsets and sizes.
abbrev pub AreLists : Layout → Type 0
AreLists (list_views e o s f v) = (o ≡ counts (naturals_in o)) × (s ≡ counts (naturals_in s)) ×
    IsSound (list_views e o s f v)
AreLists a = ⊥

-- the offsets of the lists in the elements of all arrays, the first of which is element n
abbrev pub starts_of_all : ℕ → List Layout → List ℕ
starts_of_all n [] = []
starts_of_all n (a ∷ rest) =
    map (λ start. start + n) (starts_in a) ++ starts_of_all (n + len_of (elements_in a)) rest

-- the parts of the lists of the arrays, one array after another
pub record AreListsOf (arrays es : List Layout) (os ss : List ℕ) (n : ℕ)
    : Type 0 where
  pub kinds : All AreLists arrays
  pub elements : es ≡ map elements_in arrays
  pub offsets : os ≡ starts_of_all 0 arrays
  pub sizes : ss ≡ flat_map sizes_in arrays
  pub total : n ≡ rows_in_all (map elements_in arrays)
