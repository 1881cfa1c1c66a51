-- The values of columns at rows, and lists of values that grow by a value each.
use Rattle.std.specs.Prelude.{ℕ, List, [], ◌∷◌, ◌++◌, map, cond, Option}
use Rattle.std.specs.declared.alloc.Global.{Global}
use Rattle.std.specs.declared.vec.Vec.{Vec}
use Rattle.vortex_model.specs.Content.{Raw, raw_null, raw_tuple}
use Rattle.vortex_arrays_model.specs.Layout.{Layout, Valid, is_valid}
use Rattle.vortex_arrays_core.specs.RawRows.{raw_row}
use Rattle.vortex_scalar_value.specs.View.{raw_in, raws_from}
use Rattle.vortex_scalar_value.specs.declared.scalar_value.ScalarValue.{ScalarValue}
use Rattle.vortex_table_schema.specs.Cut.{Tree, KeptPart, raw_cut, cut_part}

-- what is kept of an array's values at rows
abbrev pub cut_values : Tree → Layout → List ℕ → List Raw
cut_values t a rows = map (λ i. raw_cut t (raw_row a i)) rows

-- what records hold at a row, a value for each column
abbrev pub fields_at : List Layout → ℕ → List Raw
fields_at columns i = map (λ a. raw_row a i) columns

-- the values in each list
abbrev pub lists_of : List (Vec (Option ScalarValue) Global) → List (List Raw)
lists_of lists = map (λ list. map raw_in list.items) lists

-- each list with a value more, as far as there are values
abbrev pub with_each : List (List Raw) → List Raw → List (List Raw)
with_each [] rs = []
with_each (l ∷ ls) [] = l ∷ ls
with_each (l ∷ ls) (r ∷ rs) = (l ++ r ∷ []) ∷ with_each ls rs

-- what is kept of the values of columns at a row
abbrev pub cut_lists : List Layout → List KeptPart → ℕ → List Raw
cut_lists columns kept i = map (cut_part (raws_from (fields_at columns i))) kept

-- a record of each list, and null where its row is
abbrev pub record_values : Valid → List (List Raw) → List ℕ → List Raw
record_values v (l ∷ ls) (i ∷ rows) =
    cond (is_valid v i) (raw_tuple (raws_from l)) raw_null ∷ record_values v ls rows
record_values v ls rows = []
