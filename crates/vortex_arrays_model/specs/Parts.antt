-- The columns of a struct array from their names and arrays, the validity of an array, and codes.
use Rattle.std.specs.Prelude.{◌<◌, ℕ, List, [], ◌∷◌}
use Rattle.vortex_arrays_model.specs.Layout.{Layout, bools, numbers, strings, fixed_lists, list_views, records, Valid, required, Columns, no_columns, column, len_of, content_at, IsCode}

-- a column for each array, with the name at its index
abbrev pub columns_of : List (List ℕ) → List Layout → Columns
columns_of (x ∷ xs) (a ∷ rest) = column x a (columns_of xs rest)
columns_of [] (a ∷ rest) = column [] a (columns_of [] rest)
columns_of xs [] = no_columns

-- the validity that an array's layout has itself, if any
abbrev pub valid_in : Layout → Valid
valid_in (bools bs v) = v
valid_in (numbers k zs v) = v
valid_in (strings s views buffers v) = v
valid_in (fixed_lists e s n v) = v
valid_in (list_views e o s f v) = v
valid_in (records cs n v) = v
valid_in a = required

-- each code that is not null is an index below n
abbrev pub AreWithin : Layout → ℕ → Type 0
AreWithin codes n = (i : ℕ) → i < len_of codes → IsCode n (content_at codes i)
