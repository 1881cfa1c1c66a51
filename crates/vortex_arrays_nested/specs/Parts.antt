-- The parts of an array of lists. For an array of anything else they are meaningless.
use Rattle.std.specs.Prelude.{ℕ, Bool, false}
use Rattle.vortex_arrays_model.specs.Layout.{Layout, fixed_lists, list_views}

-- the elements of all lists
abbrev pub elements_of : Layout → Layout
elements_of (fixed_lists e s n v) = e
elements_of (list_views e o s f v) = e
elements_of a = a

-- the offset of each list
abbrev pub offsets_of : Layout → Layout
offsets_of (list_views e o s f v) = o
offsets_of a = a

-- the number of elements of each list
abbrev pub sizes_of : Layout → Layout
sizes_of (list_views e o s f v) = s
sizes_of a = a

-- the number of elements of each fixed-size list
abbrev pub size_of_each : Layout → ℕ
size_of_each (fixed_lists e s n v) = s
size_of_each a = 0

-- the lists are known to begin where the ones before end
abbrev pub is_flagged : Layout → Bool
is_flagged (list_views e o s f v) = f
is_flagged a = false
