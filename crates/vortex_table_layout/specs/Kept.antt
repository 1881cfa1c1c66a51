-- Which arrays a table keeps in their layout.
use Rattle.std.specs.Prelude.{◌≡◌, Bool, true, not, ◌&&◌}
use Rattle.vortex_model.specs.LogicalType.{LogicalType}
use Rattle.vortex_dtype_core.specs.Parts.{is_struct_type}
use Rattle.vortex_arrays_model.specs.Layout.{Layout, records, Columns, no_columns, column, array_type_of}

-- each part of a struct type that is reached only through structs is a struct array
abbrev mutual
  pub has_record_columns : Layout → Bool
  has_record_columns (records cs n v) = have_record_columns cs
  has_record_columns a = not (is_struct_type (array_type_of a))

  pub have_record_columns : Columns → Bool
  have_record_columns no_columns = true
  have_record_columns (column x a cs) = has_record_columns a && have_record_columns cs

-- a table of the type keeps the array's layout
abbrev pub KeepsLayout : LogicalType → Layout → Type 0
KeepsLayout k a = (array_type_of a ≡ k) × (has_record_columns a ≡ true)
