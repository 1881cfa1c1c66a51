-- The commands of a table: when each is refused, and the table after it.
use Rattle.std.specs.Prelude.{ℕ, zero, suc, ◌+◌, List, [], ◌∷◌, ◌++◌, length, map, Option, Some, None, Bool, true, false, not, ◌&&◌, if◌then◌else◌, nat_lt, option_map, option_and_then}
use Rattle.std.specs.List.{list_any}
use Rattle.vortex_model.specs.LogicalType.{LogicalType, boolean_type, utf8, equal_ignoring_nullability}
use Rattle.vortex_model.specs.Content.{Content, text, Raw, content_of}
use Rattle.vortex_model.specs.Valid.{valid}
use Rattle.vortex_model.specs.Convert.{converts}
use Rattle.vortex_model.specs.Path.{Names, Step, name, element, Positions, positions, position_in, part_at, eq_positions, type_of_column}
use Rattle.vortex_model.specs.Kept.{type_fault, is_leaf, is_leaf_at}
use Rattle.vortex_model.specs.Refusal.{Refusal, invalid_value, not_convertible, no_such_group, unknown_path, element_step, placeholder, unknown_column, not_a_leaf, unequal_types, not_boolean, unsupported_like, no_table, unsupported_predicate, repeated_path, or_else}
use Rattle.vortex_model_table.specs.Expression.{Expression, literal, column, compare, both, either, negation, is_null, is_not_null, is_nan, between, like, row_count, statistic}
use Rattle.vortex_model_table.specs.Like.{has_backslash}
use Rattle.vortex_model_table.specs.Typing.{expression_type}
use Rattle.vortex_model_table.specs.Table.{Table, rows_of}

-- The rows of an append are raw values. A row that could not be read is the raw null, which is
-- invalid for every type of a table. An appended array is its rows.
pub data Command : Type 0 where
  create : LogicalType → ℕ → List (List Step × ℕ) → Command
  append : LogicalType → List Raw → Command
  append_array : LogicalType → List Content → Command
  join : ℕ → Command
  retype : LogicalType → Command
  compact : Command
  scan : List (List Step) → Expression → Command
  describe : List Step → ℕ → Command

-- ---- paths

-- the type of a struct's field of this name
abbrev pub part_named : LogicalType → List ℕ → Option LogicalType
part_named k x = option_and_then (part_at k) (position_in k x)

-- the first step that is not the name of a field
abbrev pub path_fault : ℕ → LogicalType → List Step → Option Refusal
path_fault i k [] = None
path_fault i k (element ∷ steps) = Some (element_step i)
path_fault i k (name x ∷ steps) =
    elim (part_named k x) [ None ↦ Some (unknown_path i) | Some part ↦ path_fault i part steps ]

-- the first fault of paths whose indexes start at i
abbrev pub paths_fault : ℕ → LogicalType → List (List Step) → Option Refusal
paths_fault i k [] = None
paths_fault i k (path ∷ paths) = or_else (path_fault i k path) (paths_fault (suc i) k paths)

-- the names of a path that has only names
abbrev pub names_of : List Step → Names
names_of [] = []
names_of (name x ∷ steps) = x ∷ names_of steps
names_of (element ∷ steps) = names_of steps

-- the positions of a path without a fault
abbrev pub positions_of : LogicalType → List Step → Positions
positions_of k steps = elim (positions k (names_of steps)) [ None ↦ [] | Some is ↦ is ]

-- the path has to lead to a leaf
abbrev pub leaf_fault : LogicalType → List Step → Option Refusal
leaf_fault k steps = if is_leaf_at k (positions_of k steps) then None else Some not_a_leaf

-- ---- create

-- the fault of an entry of the bound lengths, after entries at the earlier positions
abbrev pub entry_fault : ℕ → LogicalType → List Positions → List Step → Option Refusal
entry_fault i k earlier path =
    or_else (path_fault i k path) (or_else (leaf_fault k path)
    (if list_any (eq_positions (positions_of k path)) earlier then Some (repeated_path i)
    else None))

-- the first fault of bound lengths whose indexes start at i
abbrev pub entries_fault : ℕ → LogicalType → List Positions → List (List Step × ℕ) → Option Refusal
entries_fault i k earlier [] = None
entries_fault i k earlier (entry ∷ entries) =
    or_else (entry_fault i k earlier entry.0) (entries_fault (suc i) k (positions_of k entry.0 ∷
    earlier) entries)

-- the type is judged before the bound lengths
abbrev pub create_fault : LogicalType → List (List Step × ℕ) → Option Refusal
create_fault k entries = or_else (type_fault k) (entries_fault 0 k [] entries)

-- a table without chunks
abbrev pub created : LogicalType → ℕ → List (List Step × ℕ) → Table
created k default entries = record {
  kind = k;
  default = default;
  lengths = map (λ entry. (positions_of k entry.0, entry.1)) entries;
  chunks = [];
  groups = [];
}

-- ---- append and retype

-- the first row that is invalid for the type, where indexes start at i
abbrev pub first_invalid : ℕ → LogicalType → List Raw → Option Refusal
first_invalid i k [] = None
first_invalid i k (r ∷ rs) =
    if valid k r then first_invalid (suc i) k rs else Some (invalid_value i)

-- the first row that doesn't convert to the second type
abbrev pub first_unconvertible : ℕ → LogicalType → LogicalType → List Content → Option Refusal
first_unconvertible i s t [] = None
first_unconvertible i s t (c ∷ cs) =
    if converts s t c then first_unconvertible (suc i) s t cs else Some (not_convertible i)

-- all rows are tested for validity before any is for conversion
abbrev pub append_fault : LogicalType → LogicalType → List Raw → Option Refusal
append_fault t s values =
    or_else (type_fault s)
    (or_else (first_invalid 0 s values) (first_unconvertible 0 s t (map content_of values)))

-- the rows are one chunk in a new group; an empty append adds none
abbrev pub appended : Table → List Content → Table
appended t [] = t
appended t (row ∷ rows) =
    record t { chunks = t.chunks ++ (row ∷ rows) ∷ []; groups = t.groups ++ 1 ∷ [] }

-- rows are counted over the whole table
abbrev pub retype_fault : Table → LogicalType → Option Refusal
retype_fault t k = or_else (type_fault k) (first_unconvertible 0 t.kind k (rows_of t))

-- ---- join

-- group i and the one after it have to exist
abbrev pub join_fault : Table → ℕ → Option Refusal
join_fault t i = if nat_lt (suc i) (length t.groups) then None else Some no_such_group

-- the sizes at i and i + 1, added
abbrev pub joined_at : ℕ → List ℕ → List ℕ
joined_at zero (m ∷ n ∷ sizes) = (m + n) ∷ sizes
joined_at zero sizes = sizes
joined_at (suc i) [] = []
joined_at (suc i) (m ∷ sizes) = m ∷ joined_at i sizes

-- ---- scan

-- both have a type, and these are equal up to nullability
abbrev pub eq_optional_type : Option LogicalType → Option LogicalType → Bool
eq_optional_type (Some k) (Some l) = equal_ignoring_nullability k l
eq_optional_type k l = false

abbrev pub is_boolean : Option LogicalType → Bool
is_boolean (Some (boolean_type n)) = true
is_boolean k = false

abbrev pub is_utf8_type : Option LogicalType → Bool
is_utf8_type (Some (utf8 n)) = true
is_utf8_type k = false

-- the refusal, unless the test passes
abbrev pub unless : Bool → Refusal → Option Refusal
unless b r = if b then None else Some r

-- a column of a predicate has to be a leaf
abbrev pub column_fault : Option LogicalType → Option Refusal
column_fault None = Some unknown_column
column_fault (Some k) = unless (is_leaf k) not_a_leaf

-- the pattern is a literal string without a backslash, and case is kept
abbrev pub is_supported_like : Expression → Bool → Bool
is_supported_like (literal k (text form)) ignores_case =
    not ignores_case && not (has_backslash form)
is_supported_like e ignores_case = false

-- the first fault of a predicate: children before their parent, left before right
abbrev pub expression_fault : LogicalType → Expression → Option Refusal
expression_fault k (literal l c) = unless (is_leaf l) unsupported_predicate
expression_fault k (column xs) = column_fault (type_of_column k xs)
expression_fault k (compare op x y) =
    or_else (expression_fault k x)
    (or_else (expression_fault k y)
    (unless (eq_optional_type (expression_type k x) (expression_type k y)) unequal_types))
expression_fault k (both x y) =
    or_else (expression_fault k x)
    (or_else (expression_fault k y) (unless (is_boolean (expression_type k x) &&
    is_boolean (expression_type k y)) not_boolean))
expression_fault k (either x y) =
    or_else (expression_fault k x)
    (or_else (expression_fault k y) (unless (is_boolean (expression_type k x) &&
    is_boolean (expression_type k y)) not_boolean))
expression_fault k (negation x) =
    or_else (expression_fault k x) (unless (is_boolean (expression_type k x)) not_boolean)
expression_fault k (is_null x) = expression_fault k x
expression_fault k (is_not_null x) = expression_fault k x
expression_fault k (is_nan x) = or_else (expression_fault k x) (Some unsupported_predicate)
expression_fault k (between x lo hi lower_strict upper_strict) =
    or_else (expression_fault k x) (or_else (expression_fault k lo) (or_else (expression_fault k hi)
    (unless (eq_optional_type (expression_type k x) (expression_type k lo) &&
    eq_optional_type (expression_type k x) (expression_type k hi)) unequal_types)))
expression_fault k (like x form negated ignores_case) =
    or_else (expression_fault k x) (or_else (expression_fault k form) (or_else
    (unless (is_utf8_type (expression_type k x) &&
    is_utf8_type (expression_type k form)) unequal_types)
    (unless (is_supported_like form ignores_case) unsupported_like)))
expression_fault k row_count = Some unsupported_predicate
expression_fault k (statistic x a) = or_else (expression_fault k x) (Some placeholder)

-- a predicate has to be a boolean
abbrev pub predicate_fault : LogicalType → Expression → Option Refusal
predicate_fault k e =
    or_else (expression_fault k e) (unless (is_boolean (expression_type k e)) not_boolean)

-- paths are judged before the predicate
abbrev pub scan_fault : Table → List (List Step) → Expression → Option Refusal
scan_fault t paths e = or_else (paths_fault 0 t.kind paths) (predicate_fault t.kind e)

-- ---- describe

-- the path is judged before the group
abbrev pub describe_fault : Table → List Step → ℕ → Option Refusal
describe_fault t path i =
    or_else (path_fault 0 t.kind path)
    (or_else (leaf_fault t.kind path) (unless (nat_lt i (length t.groups)) no_such_group))

-- ---- all commands

-- The first reason to refuse the command, and none where it is accepted. That a total is passed,
-- and that memory runs out, is in `RespondsTo`.
abbrev pub refusal : Table → Command → Option Refusal
refusal t (create k default entries) = create_fault k entries
refusal t (append s values) = append_fault t.kind s values
refusal t (append_array s rows) =
    or_else (type_fault s) (first_unconvertible 0 s t.kind rows)
refusal t (join i) = join_fault t i
refusal t (retype k) = retype_fault t k
refusal t compact = None
refusal t (scan paths e) = scan_fault t paths e
refusal t (describe path i) = describe_fault t path i

-- the table after an accepted command
abbrev pub after : Table → Command → Table
after t (create k default entries) = created k default entries
after t (append s values) = appended t (map content_of values)
after t (append_array s rows) = appended t rows
after t (join i) = record t { groups = joined_at i t.groups }
after t (retype k) = record t { kind = k }
after t compact = t
after t (scan paths e) = t
after t (describe path i) = t

-- a refused command changes nothing
abbrev pub step : Table → Command → Table
step t c = elim (refusal t c) [ None ↦ after t c | Some r ↦ t ]

-- ---- from no table on

-- Why a command is refused. Without a table, only a create is accepted.
abbrev pub refusal_in : Option Table → Command → Option Refusal
refusal_in (Some t) c = refusal t c
refusal_in None (create k default entries) = create_fault k entries
refusal_in None c = Some no_table

-- The table after an accepted command. A create replaces the table.
abbrev pub after_in : Option Table → Command → Option Table
after_in s (create k default entries) = Some (created k default entries)
after_in s c = option_map (λ t. after t c) s

-- a refused command changes nothing
abbrev pub step_in : Option Table → Command → Option Table
step_in s c = elim (refusal_in s c) [ None ↦ after_in s c | Some r ↦ s ]

-- the table after a list of commands, of which any may be refused
abbrev pub steps : Option Table → List Command → Option Table
steps s [] = s
steps s (c ∷ cs) = steps (step_in s c) cs
