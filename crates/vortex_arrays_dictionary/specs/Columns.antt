-- Columns whose rows have keys by their layout.
use Rattle.std.specs.Prelude.{◌≡◌, ℕ, List, [], length, map, Bool, true, false, cond, slice_index_or}
use Rattle.std.specs.List.{range_with_len}
use Rattle.vortex_arrays_view.specs.Views.{value_of}
use Rattle.vortex_arrays_model.specs.Layout.{Layout, bools, numbers, strings, Valid, array_type_of, is_valid, rows_of}
use Rattle.vortex_arrays_model.specs.Picks.{Picks}
use Rattle.vortex_arrays_dictionary.specs.Dictionary.{IsDictionaryOf}
use Rattle.vortex_arrays_dictionary.specs.Firsts.{AreNumbered}

-- booleans, integers, strings or bytes in plain layout
abbrev pub is_plain_leaf : Layout → Bool
is_plain_leaf (bools bs v) = true
is_plain_leaf (numbers k zs v) = true
is_plain_leaf (strings s views buffers v) = true
is_plain_leaf a = false

-- whether each of n rows is not null
abbrev pub valid_flags : Valid → ℕ → List Bool
valid_flags v n = map (is_valid v) (range_with_len 0 n)

-- the value of a row's view, and no bytes for a null row
abbrev pub bytes_or_none : List (List ℕ) → List (List ℕ) → List Bool → ℕ → List ℕ
bytes_or_none views buffers present i =
    cond (slice_index_or present i false) (value_of (slice_index_or views i []) buffers) []

-- a is a column whose distinct values first occur at `firsts`, its rows have the numbers `ns`, and
-- `values` are its rows at these indices
pub record IsColumnNumbered (a : Layout) (firsts ns : List ℕ) (values : Layout) : Type 0 where
  pub leaf : is_plain_leaf a ≡ true
  pub numbered : AreNumbered (rows_of a) firsts ns
  pub values_there : Picks a values (length firsts) (λ i. slice_index_or firsts i 0)

-- d is a dictionary of the rows of the column a, of the same type
pub record IsDictionaryFrom (a d : Layout) : Type 0 where
  pub kind : array_type_of d ≡ array_type_of a
  pub rows : rows_of d ≡ rows_of a
  pub layout : IsDictionaryOf (rows_of a) d
