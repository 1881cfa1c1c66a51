-- The contents of JSON values, for a type.
use Rattle.std.specs.Prelude.{ℕ, ◌==◌, List, [], ◌∷◌, Option, Some, None, unwrap_or, if◌then◌else◌, option_map, option_and_then}
use Rattle.serde_json.specs.Data.{Num, Data, null, boolean as flag, number, string, array, Items, no_items, item}
use Rattle.serde_json.specs.Events.{items_len}
use Rattle.serde_json.specs.Find.{as_integer}
use Rattle.vortex_model.specs.LogicalType.{IntKind, LogicalType, boolean_type, integer_type, utf8, binary, list, fixed_list, struct, Fields, no_fields, field}
use Rattle.vortex_model.specs.Content.{Raw, raw_null, raw_boolean, raw_number, raw_text, raw_byte_string, raw_tuple}
use Rattle.vortex_model.specs.Valid.{in_range}
use Rattle.vortex_dtype_ptype.specs.Numbers.{NumberKind, integral, floating}
use Rattle.vortex_scalar_value.specs.View.{raws_from}
use Rattle.vortex_table_request.specs.Kinds.{bytes_of_digits}

-- an integer within the type
abbrev pub number_at : IntKind → Num → Option Raw
number_at i n =
    option_and_then (λ z. if in_range i z then Some (raw_number i z) else None) (as_integer n)

-- a float type has no numbers
abbrev pub number_of : NumberKind → Num → Option Raw
number_of (integral i) n = number_at i n
number_of (floating f) n = None

-- fixed-size lists have exactly m items
abbrev pub if_sized : ℕ → ℕ → Option Raw → Option Raw
if_sized n m o = if n == m then o else None

-- The reading of a value for a type: null for any type, a boolean, an integer within its type, a
-- string, hexadecimal digits as bytes, an array of a struct's fields in order, and an array of a
-- list's elements, as many as the size of a fixed-size list.
abbrev mutual
  pub reading : LogicalType → Data → Option Raw
  reading k null = Some raw_null
  reading (boolean_type n) (flag b) = Some (raw_boolean b)
  reading (integer_type i n) (number x) = number_at i x
  reading (utf8 n) (string s) = Some (raw_text s)
  reading (binary n) (string s) = option_map raw_byte_string (bytes_of_digits s)
  reading (list k n) (array ds) =
      option_map (λ rs. raw_tuple (raws_from rs)) (element_readings k ds)
  reading (fixed_list k m n) (array ds) =
      if_sized (items_len ds) m
      (option_map (λ rs. raw_tuple (raws_from rs)) (element_readings k ds))
  reading (struct fs n) (array ds) = option_map (λ rs. raw_tuple (raws_from rs)) (readings fs ds)
  reading k d = None

  -- a reading for each field
  pub readings : Fields → Items → Option (List Raw)
  readings no_fields no_items = Some []
  readings (field x k fs) (item d ds) =
      option_and_then (λ r. option_map (λ rs. r ∷ rs) (readings fs ds)) (reading k d)
  readings fs ds = None

  -- a reading for each item, all of one type
  pub element_readings : LogicalType → Items → Option (List Raw)
  element_readings k no_items = Some []
  element_readings k (item d ds) =
      option_and_then (λ r. option_map (λ rs. r ∷ rs) (element_readings k ds)) (reading k d)

-- the type of the items of a list with this many
abbrev pub item_type : LogicalType → ℕ → Option LogicalType
item_type (list k n) count = Some k
item_type (fixed_list k m n) count = if count == m then Some k else None
item_type k count = None

-- a row, and null where there is no reading
abbrev pub row_at : LogicalType → Data → Raw
row_at k d = unwrap_or (reading k d) raw_null

abbrev pub rows_at : LogicalType → Items → List Raw
rows_at k no_items = []
rows_at k (item d ds) = row_at k d ∷ rows_at k ds
