-- The cells of columns of leaves that grow cell by cell.
use Rattle.std.specs.Prelude.{◌≡◌, ℕ, ℤ, List, [], ◌∷◌, ◌++◌, map, Bool, Option, Some, None, Result, Ok, Err, if◌then◌else◌}
use Rattle.hex.specs.Hex.{decode_of}
use Rattle.vortex_model.specs.LogicalType.{LogicalType, boolean_type, integer_type, utf8, binary}
use Rattle.vortex_model.specs.Content.{Raw, raw_boolean, raw_number, raw_text, raw_byte_string}
use Rattle.vortex_model.specs.Valid.{in_range}
use Rattle.vortex_dtype_ptype.specs.View.{nullability_of_flag}
use Rattle.vortex_table_columns.specs.Cells.{cell_raw}
use Rattle.vortex_table_columns.specs.Numbers.{kind_in, integers_in}
use Rattle.vortex_table_columns.specs.declared.column.ColumnBuilder.{ColumnBuilder}
use Rattle.vortex_table_columns.specs.declared.column.ColumnBuilder.TheVariants.{Booleans, Integers, Texts, Bytes}

abbrev pub column_type : ColumnBuilder → LogicalType
column_type (Booleans n cells) = boolean_type (nullability_of_flag n)
column_type (Integers n cells) = integer_type (kind_in cells) (nullability_of_flag n)
column_type (Texts n texts) = utf8 (nullability_of_flag n)
column_type (Bytes n bytes) = binary (nullability_of_flag n)

abbrev pub cells_of : ColumnBuilder → List Raw
cells_of (Booleans n cells) = map (cell_raw raw_boolean) cells.items
cells_of (Integers n cells) = map (cell_raw (raw_number (kind_in cells))) (integers_in cells)
cells_of (Texts n texts) = map (cell_raw raw_text) texts
cells_of (Bytes n bytes) = map (cell_raw raw_byte_string) bytes

-- the cell of a value in a column of the type, if the type has it
abbrev pub boolean_cell : LogicalType → Bool → Option Raw
boolean_cell (boolean_type n) b = Some (raw_boolean b)
boolean_cell k b = None

abbrev pub number_cell : LogicalType → ℤ → Option Raw
number_cell (integer_type i n) z = if in_range i z then Some (raw_number i z) else None
number_cell k z = None

-- decoded bytes, if decoding succeeded
abbrev pub decoded_cell : {E : Type 0} → Result (List ℕ) E → Option Raw
decoded_cell (Ok bytes) = Some (raw_byte_string bytes)
decoded_cell (Err e) = None

abbrev pub text_cell : LogicalType → List ℕ → Option Raw
text_cell (utf8 n) s = Some (raw_text s)
text_cell (binary n) s = decoded_cell (decode_of s)
text_cell k s = None

-- the new column has one more cell
pub record Takes (old : ColumnBuilder) (cell : Raw) (new : ColumnBuilder) : Type 0 where
  pub kind : column_type new ≡ column_type old
  pub cells : cells_of new ≡ cells_of old ++ cell ∷ []
