-- The result of a fallible reader, the value of a line, and its parts.
use Rattle.std.specs.Prelude.{◌≡◌, ℕ, List, Bool, true, false, not, Option, Some, None, Result, Ok, Err, if◌then◌else◌, option_map, option_and_then}
use Rattle.std.specs.Str.{is_utf8}
use Rattle.serde_json.specs.Data.{Data, null, boolean, number, string, array, object, Items, no_items, item, Members, no_members, member}
use Rattle.serde_json.specs.Events.{items_len, members_len}
use Rattle.serde_json.specs.Find.{as_array, as_object, as_number, as_u64, is_float}
use Rattle.serde_json.specs.Read.{read}
use Rattle.vortex_table_request.specs.declared.parse_error.ParseError.{ParseError}
use Rattle.vortex_table_request.specs.declared.parse_error.ParseError.TheVariants.{Memory, Malformed}

-- What was read, in the given view, is what there is to read, unless memory ran out.
abbrev pub Gives : {X Y : Type 0} → (X → Y) → Result X ParseError → Option Y → Type 0
Gives view (Ok x) read = read ≡ Some (view x)
Gives view (Err Memory) read = Unit {0}
Gives view (Err Malformed) read = read ≡ None

-- the value of a line
abbrev pub data_of : List ℕ → Option Data
data_of line = if is_utf8 line then read line else None

-- the number of members of an object
abbrev pub size_of : Data → Option ℕ
size_of d = option_map members_len (as_object d)

-- the number of items of an array
abbrev pub items_size : Data → Option ℕ
items_size d = option_map items_len (as_array d)

-- an integer that is not negative
abbrev pub natural_of : Data → Option ℕ
natural_of d = option_and_then as_u64 (as_number d)

-- each number is an integer of 64 bits
abbrev mutual
  pub keeps_whole : Data → Bool
  keeps_whole null = true
  keeps_whole (boolean b) = true
  keeps_whole (number n) = not (is_float n)
  keeps_whole (string s) = true
  keeps_whole (array ds) = items_keep_whole ds
  keeps_whole (object ms) = members_keep_whole ms

  pub items_keep_whole : Items → Bool
  items_keep_whole no_items = true
  items_keep_whole (item d ds) = if keeps_whole d then items_keep_whole ds else false

  pub members_keep_whole : Members → Bool
  members_keep_whole no_members = true
  members_keep_whole (member k d ms) = if keeps_whole d then members_keep_whole ms else false
