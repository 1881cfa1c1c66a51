-- The members of a line's object, of which some are read from their tokens, without a JSON value.
use Rattle.std.specs.Prelude.{◌≡◌, ℕ, List, true, Option, Some, None, IfSome, if◌then◌else◌, codes}
use Rattle.std.specs.Str.{bytes_eq}
use Rattle.json.specs.Token.{Token}
use Rattle.serde_json.specs.Data.{Data, null, object, Members, no_members, member, put}
use Rattle.serde_json.specs.Find.{get_member}
use Rattle.serde_json.specs.View.{members_view}
use Rattle.vortex_model.specs.LogicalType.{LogicalType}
use Rattle.vortex_arrays_model.specs.Layout.{Layout, array_type_of}
use Rattle.vortex_table_request.specs.Kinds.{type_in}
use Rattle.vortex_table_request.specs.Line.{rows_in, command_in}
use Rattle.vortex_table_request.specs.Parsed.{members_keep_whole}
use Rattle.vortex_table_request.specs.View.{raw_rows, shown, HasHintsOf}
use Rattle.vortex_table_request.specs.declared.command.Command.{Command}
use Rattle.vortex_table_tokens.specs.Values.{HasValue}
use Rattle.vortex_table_tokens.specs.declared.members.LineMembers.{LineMembers}

-- what is kept as the value at a key: null for rows
abbrev pub kept : List ℕ → Data → Data
kept k d = if bytes_eq k (codes "rows") then null else d

abbrev pub kept_members : Members → Members
kept_members no_members = no_members
kept_members (member k d ms) = member k (kept k d) (kept_members ms)

abbrev pub IsType : LogicalType → Data → Type 0
IsType k d = type_in d ≡ Some k

-- the array has the rows, and is of their type where that is known
abbrev pub HasRows : Members → Layout → Type 0
HasRows ms a = IfSome (get_member (codes "dtype") ms) (IsType (array_type_of a))
    × (rows_in (array_type_of a) (object ms) ≡ Some (raw_rows a))

-- The members, by the values that are kept, and the rows that were read.
pub record AreParts (ms vs : Members) (array : Option Layout) : Type 0 where
  pub values : vs ≡ kept_members ms
  pub whole : members_keep_whole ms ≡ true
  pub rows : IfSome array (HasRows ms)
  pub all : array ≡ None → vs ≡ ms

abbrev pub IsReadAs : Members → LineMembers → Type 0
IsReadAs ms line = AreParts ms (members_view line.values.entries) line.rows

-- the value of a member with this name was read
abbrev pub TakesMember : List ℕ → List Token → LineMembers → LineMembers → List Token → Type 0
TakesMember name start old new rest =
    HasValue 126 start (λ d. (ms : Members) → IsReadAs ms old → IsReadAs (put name d ms) new) rest

-- the members are this command, with their hints
abbrev pub IsCommand : Members → Command → Type 0
IsCommand ms command =
    (command_in (object ms) ≡ Some (shown command)) × HasHintsOf (object ms) command
