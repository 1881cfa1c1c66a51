-- Fixed-size lists.
use Rattle.std.specs.Prelude.{◌≡◌, ℕ, []}
use Rattle.vortex_arrays_model.specs.Layout.{Layout, bools, fixed_lists, list_views, required, IsSound}

-- it is a sound array of lists of this size
abbrev pub AreFixedLists : ℕ → Layout → Type 0
AreFixedLists s (fixed_lists e t n v) = (t ≡ s) × IsSound (fixed_lists e t n v)
AreFixedLists s a = ⊥

-- the array of the elements of its lists
abbrev pub elements_in : Layout → Layout
elements_in (fixed_lists e s n v) = e
elements_in (list_views e o s f v) = e
elements_in a = bools [] required
