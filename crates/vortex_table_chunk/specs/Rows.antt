-- The rows of an array as values of its type.
use Rattle.std.specs.Prelude.{Bool}
use Rattle.std.specs.List.{AllByRecursion, list_all, range_with_len}
use Rattle.vortex_model.specs.Valid.{valid, IsContent}
use Rattle.vortex_arrays_model.specs.Layout.{Layout, len_of, array_type_of, rows_of}
use Rattle.vortex_arrays_core.specs.RawRows.{raw_row}

-- the raw value of each row is one of the type
abbrev pub are_rows_valid : Layout → Bool
are_rows_valid a =
    list_all (λ i. valid (array_type_of a) (raw_row a i)) (range_with_len 0 (len_of a))

-- the content of each row is one of the type
abbrev pub HasRowsOfType : Layout → Type 0
HasRowsOfType a = AllByRecursion (IsContent (array_type_of a)) (rows_of a)
