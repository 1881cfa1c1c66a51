-- Strings and bytes by views, end to end.
use Rattle.std.specs.Prelude.{◌≡◌, ◌<◌, ◌≤◌, ◌+◌, ◌%◌, ◌^◌, ℕ, List, [], length, slice_index_or, All}
use Rattle.vortex_arrays_view.specs.Views.{size_of, index_of, offset_of, value_of, HasValue}
use Rattle.vortex_arrays_view.specs.Made.{long_view, prefix_in}
use Rattle.vortex_arrays_model.specs.Layout.{Layout, Strings, strings, IsSound}
use Rattle.vortex_arrays_concat.specs.EndToEnd.{rows_in_all}
use Rattle.vortex_arrays_concat.specs.Columns.{IsAt}

abbrev pub views_in : Layout → List (List ℕ)
views_in (strings s vs bs v) = vs
views_in a = []

abbrev pub buffers_in : Layout → List (List ℕ)
buffers_in (strings s vs bs v) = bs
buffers_in a = []

-- it is a sound array of this kind by views
abbrev pub AreStrings : Strings → Layout → Type 0
AreStrings s (strings t vs bs v) = (t ≡ s) × IsSound (strings t vs bs v)
AreStrings s a = ⊥

-- the view is the old one after n more buffers
pub record IsMoved (n : ℕ) (old new : List ℕ) : Type 0 where
  pub short : size_of old ≤ 12 → new ≡ old
  pub long : 12 < size_of old → new ≡
      long_view (size_of old) (prefix_in old) ((index_of old + n) % 2 ^ 32) (offset_of old)
  pub size : 12 < size_of old → size_of old < 2 ^ 32
  pub offset : 12 < size_of old → offset_of old < 2 ^ 32

-- beside the buffers the view has the value that the old one has beside its own
pub record ReadsAs (old : List ℕ) (own : List (List ℕ)) (new : List ℕ)
    (buffers : List (List ℕ)) : Type 0 where
  pub there : HasValue old own → HasValue new buffers
  pub same : HasValue old own → value_of new buffers ≡ value_of old own

-- the arrays are of this kind, and these are views of their values beside these buffers
pub record AreViewsOf (s : Strings) (arrays : List Layout) (views buffers : List (List ℕ))
    : Type 0 where
  pub kinds : All (AreStrings s) arrays
  pub count : length views ≡ rows_in_all arrays
  pub reads : (p : ℕ) (a : Layout) (i : ℕ) → IsAt arrays p a i →
      ReadsAs (slice_index_or (views_in a) i []) (buffers_in a) (slice_index_or views p []) buffers
