-- The command of a line.
use Rattle.std.specs.Prelude.{ℕ, ◌+◌, List, [], ◌∷◌, ◌==◌, is_some, Option, Some, None, if◌then◌else◌, option_map, option_and_then, codes}
use Rattle.std.specs.Str.{bytes_eq}
use Rattle.serde_json.specs.Data.{Data, Items, no_items, item}
use Rattle.serde_json.specs.Find.{get, at, as_array, as_str}
use Rattle.vortex_model.specs.LogicalType.{LogicalType}
use Rattle.vortex_model.specs.Content.{Raw}
use Rattle.vortex_model.specs.Path.{Step}
use Rattle.vortex_model_table.specs.Command.{Command, create, append, join, retype, compact, scan, describe}
use Rattle.vortex_table_request.specs.Parsed.{data_of, size_of, items_size, natural_of, keeps_whole}
use Rattle.vortex_table_request.specs.Kinds.{type_in, one_if}
use Rattle.vortex_table_request.specs.Rows.{rows_at}
use Rattle.vortex_table_request.specs.Where.{path_in, paths_in, predicate_in}

-- the hint for the layout of a column of an append, which no answer shows
pub data LayoutName : Type 0 where
  plain dictionary constant : LayoutName

abbrev pub layout_named : List ℕ → Option LayoutName
layout_named name =
    if bytes_eq name (codes "plain") then Some plain
    else (if bytes_eq name (codes "dictionary") then Some dictionary
    else (if bytes_eq name (codes "constant") then Some constant else None))

abbrev pub layouts_of : Items → Option (List LayoutName)
layouts_of no_items = Some []
layouts_of (item d ds) =
    option_and_then (λ l. option_map (λ ls. l ∷ ls) (layouts_of ds))
    (option_and_then layout_named (as_str d))

-- missing layouts are no hints
abbrev pub layouts_in : Option Data → Option (List LayoutName)
layouts_in None = Some []
layouts_in (Some d) = option_and_then layouts_of (as_array d)

-- the bound length of a leaf: `[path,length]`, whose length fits in a `usize`
abbrev pub entry_in : Data → Option (List Step × ℕ)
entry_in d = option_and_then (λ size. if size == 2
    then option_and_then (λ path. option_map (λ n. (path, n)) (option_and_then natural_of (at 1 d)))
    (option_and_then path_in (at 0 d))
    else None) (items_size d)

abbrev pub entries_of : Items → Option (List (List Step × ℕ))
entries_of no_items = Some []
entries_of (item d ds) =
    option_and_then (λ e. option_map (λ es. e ∷ es) (entries_of ds)) (entry_in d)

-- missing bound lengths of leaves are none
abbrev pub lengths_in : Option Data → Option (List (List Step × ℕ))
lengths_in None = Some []
lengths_in (Some d) = option_and_then entries_of (as_array d)

-- `length` fits in a `usize`
abbrev pub create_in : ℕ → Data → Option Command
create_in size d =
    if size == 3 + one_if (is_some (get (codes "lengths") d))
    then option_and_then (λ k. option_and_then (λ n. option_map (create k n)
    (lengths_in (get (codes "lengths") d)))
    (option_and_then natural_of (get (codes "length") d)))
    (option_and_then type_in (get (codes "dtype") d))
    else None

-- the rows of an append of this type
abbrev pub rows_in : LogicalType → Data → Option (List Raw)
rows_in k d = option_map (rows_at k) (option_and_then as_array (get (codes "rows") d))

abbrev pub append_in : ℕ → Data → Option Command
append_in size d =
    if size == 3 + one_if (is_some (get (codes "layouts") d))
    then option_and_then (λ layouts. option_and_then (λ k. option_map (append k) (rows_in k d))
    (option_and_then type_in (get (codes "dtype") d)))
    (layouts_in (get (codes "layouts") d))
    else None

abbrev pub retype_in : ℕ → Data → Option Command
retype_in size d =
    if size == 2
    then option_map retype (option_and_then type_in (get (codes "dtype") d))
    else None

-- no key but `cmd`
abbrev pub compact_in : ℕ → Option Command
compact_in size = if size == 1 then Some compact else None

abbrev pub scan_in : ℕ → Data → Option Command
scan_in size d =
    if size == 3
    then option_and_then (λ paths. option_map (scan paths)
    (option_and_then predicate_in (get (codes "where") d)))
    (option_and_then paths_in (option_and_then as_array (get (codes "paths") d)))
    else None

-- `group` fits in a `usize`
abbrev pub join_in : ℕ → Data → Option Command
join_in size d =
    if size == 2
    then option_map join (option_and_then natural_of (get (codes "group") d))
    else None

-- `path` is a path as in a scan
abbrev pub describe_in : ℕ → Data → Option Command
describe_in size d =
    if size == 3
    then option_and_then (λ path. option_map (describe path)
    (option_and_then natural_of (get (codes "group") d)))
    (option_and_then path_in (get (codes "path") d))
    else None

-- the commands, without their operands
pub data VerbName : Type 0 where
  creates appends joins retypes compacts scans describes : VerbName

abbrev pub verb_named : List ℕ → Option VerbName
verb_named name =
    if bytes_eq name (codes "create") then Some creates
    else (if bytes_eq name (codes "append") then Some appends
    else (if bytes_eq name (codes "scan") then Some scans
    else (if bytes_eq name (codes "join") then Some joins
    else (if bytes_eq name (codes "retype") then Some retypes
    else (if bytes_eq name (codes "compact") then Some compacts
    else (if bytes_eq name (codes "describe") then Some describes else None))))))

-- the command with this name, of an object with this many members
abbrev pub command_with : VerbName → ℕ → Data → Option Command
command_with creates size d = create_in size d
command_with appends size d = append_in size d
command_with scans size d = scan_in size d
command_with joins size d = join_in size d
command_with retypes size d = retype_in size d
command_with compacts size d = compact_in size
command_with describes size d = describe_in size d

-- an object with `cmd` and exactly the keys of that command
abbrev pub command_in : Data → Option Command
command_in d =
    option_and_then (λ size. option_and_then (λ verb. command_with verb size d)
    (option_and_then verb_named (option_and_then as_str (get (codes "cmd") d)))) (size_of d)

-- The command of a line. A number that is not an integer of 64 bits makes the line malformed
-- wherever it is.
abbrev pub command_of : List ℕ → Option Command
command_of line = option_and_then (λ d. if keeps_whole d then command_in d else None) (data_of line)
