-- The parts of a struct array.
use Rattle.std.specs.Prelude.{ℕ, List, [], ◌∷◌}
use Rattle.vortex_arrays_model.specs.Layout.{Layout, records, Valid, required, Columns, no_columns, column}

abbrev pub AreRecords : Layout → Type 0
AreRecords (records cs n v) = Unit {0}
AreRecords a = ⊥

-- its columns and its validity
abbrev pub columns_in : Layout → Columns
columns_in (records cs n v) = cs
columns_in a = no_columns

abbrev pub validity_in : Layout → Valid
validity_in (records cs n v) = v
validity_in a = required

-- the names of columns, and their arrays
abbrev pub names_in : Columns → List (List ℕ)
names_in no_columns = []
names_in (column x a cs) = x ∷ names_in cs

abbrev pub arrays_in : Columns → List Layout
arrays_in no_columns = []
arrays_in (column x a cs) = a ∷ arrays_in cs
