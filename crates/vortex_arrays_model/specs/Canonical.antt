-- The canonical layout of rows of lists: no gaps, and no elements in null lists.
use Rattle.std.specs.Prelude.{◌≡◌, ◌<◌, ℕ, pos, List, [], ◌∷◌, length, map, take, slice_index_or, sum_by, Bool, true, false, IsTrue, IsFalse}
use Rattle.std.specs.List.{flat_map}
use Rattle.vortex_model.specs.LogicalType.{u64}
use Rattle.vortex_model.specs.Content.{Content, null, tuple, Contents, nothing, first}
use Rattle.vortex_arrays_model.specs.Layout.{Layout, numbers, list_views, Valid, required, len_of, array_type_of, rows_of}

abbrev pub listed : Contents → List Content
listed nothing = []
listed (first c cs) = c ∷ listed cs

-- the items of a row's list, and none for a null row
abbrev pub items_of : Content → List Content
items_of (tuple cs) = listed cs
items_of c = []

-- the number of items of all rows before row i
abbrev pub start_of : List Content → ℕ → ℕ
start_of rows i = sum_by (λ row. length (items_of row)) (take i rows)

-- Each list begins after those of the rows before, has one element for each item of its row, and
-- the items are end to end.
pub record IsCanonical (rows : List Content) (offsets sizes : List ℕ)
    (elements : List Content) : Type 0 where
  pub many_offsets : length offsets ≡ length rows
  pub many_sizes : length sizes ≡ length rows
  pub offset : (i : ℕ) → i < length rows → slice_index_or offsets i 0 ≡ start_of rows i
  pub size : (i : ℕ) → i < length rows → slice_index_or sizes i 0 ≡
      length (items_of (slice_index_or rows i null))
  pub end_to_end : elements ≡ flat_map items_of rows

-- an array of these integers
abbrev pub counts : List ℕ → Layout
counts xs = numbers u64 (map pos xs) required

-- r is the canonical layout of the rows, flagged as end to end, with elements of the type of e
pub record IsLaidOut (e o s : Layout) (v : Valid) (r : Layout) : Type 0 where
  pub offsets : List ℕ
  pub sizes : List ℕ
  pub elements : Layout
  pub made : r ≡ list_views elements (counts offsets) (counts sizes) true v
  pub kind : array_type_of elements ≡ array_type_of e
  pub canonical : IsCanonical (rows_of (list_views e o s false v)) offsets sizes (rows_of elements)

-- r is a list view rebuilt, which is the list view itself where it is flagged or has no rows
pub record IsRebuilt (e o s : Layout) (flag : Bool) (v : Valid) (r : Layout) : Type 0 where
  pub flagged : IsTrue flag → r ≡ list_views e o s flag v
  pub empty : len_of o ≡ 0 → r ≡ list_views e o s flag v
  pub laid_out : IsFalse flag → 0 < len_of o → IsLaidOut e o s v r
