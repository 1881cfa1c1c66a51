-- The commands of lines: they hand in no arrays, and their literals are of their types.
use Rattle.std.proofs.Common.{◌≡◌, ℕ, ◌+◌, List, Bool, Option, Some, None, is_some, if◌then◌else◌, ◌==◌, option_map, option_and_then, codes}
use Rattle.serde_json.specs.Data.{Data}
use Rattle.serde_json.specs.Find.{get, as_str, as_array}
use Rattle.vortex_model_table.specs.Expression.{Expression, HasFormedLiterals}
use Rattle.vortex_model_table.specs.Command.{Command, create, append, append_array, join, retype, compact, scan, describe}
use Rattle.vortex_table_request.specs.Parsed.{data_of, size_of, keeps_whole, natural_of}
use Rattle.vortex_table_request.specs.Where.{predicate_in, paths_in, path_in}
use Rattle.vortex_table_request.specs.Kinds.{type_in, one_if}
use Rattle.vortex_table_request.specs.Line.{VerbName, creates, appends, joins, retypes, compacts, scans, describes, command_with, command_in, command_of, create_in, append_in, scan_in, join_in, retype_in, describe_in, verb_named, lengths_in, layouts_in, rows_in}
use Rattle.vortex_table_request.proofs.FormedLiterals.{If, if_bound, if_mapped, if_over, if_so, if_passes, predicate_formed}

abbrev pub IsWellFormed : Command → Type 0
IsWellFormed (append_array k rows) = ⊥
IsWellFormed (scan paths e) = HasFormedLiterals e
IsWellFormed c = Unit {0}

abbrev pub ReadsWell : Type 0
ReadsWell = (line : List ℕ) (c : Command) → command_of line ≡ Some c → IsWellFormed c

-- ---- commands

abbrev WellFormed : Option Command → Type 0
WellFormed = If IsWellFormed

create_well : (size : ℕ) (d : Data) → WellFormed (create_in size d)
create_well size d =
    if_passes IsWellFormed (size == 3 + one_if (is_some (get (codes "lengths") d))) _ (λ e.
    if_bound IsWellFormed _ (option_and_then type_in (get (codes "dtype") d)) (λ k.
    if_bound IsWellFormed _ (option_and_then natural_of (get (codes "length") d)) (λ n.
    if_mapped IsWellFormed (create k n) (lengths_in (get (codes "lengths") d)) (λ entries. tt))))

append_well : (size : ℕ) (d : Data) → WellFormed (append_in size d)
append_well size d =
    if_passes IsWellFormed (size == 3 + one_if (is_some (get (codes "layouts") d))) _ (λ e.
    if_bound IsWellFormed _ (layouts_in (get (codes "layouts") d)) (λ layouts.
    if_bound IsWellFormed _ (option_and_then type_in (get (codes "dtype") d)) (λ k.
    if_mapped IsWellFormed (append k) (rows_in k d) (λ rows. tt))))

scan_well : (size : ℕ) (d : Data) → WellFormed (scan_in size d)
scan_well size d =
    if_passes IsWellFormed (size == 3) _ (λ e.
    if_bound IsWellFormed _ (option_and_then paths_in (option_and_then as_array (get (codes "paths") d))) (λ paths.
    if_over HasFormedLiterals IsWellFormed (scan paths) (option_and_then predicate_in (get (codes "where") d))
    (if_bound HasFormedLiterals predicate_in (get (codes "where") d) predicate_formed) (λ p h. h)))

command_well : (v : VerbName) (size : ℕ) (d : Data) → WellFormed (command_with v size d)
command_well creates size d = create_well size d
command_well appends size d = append_well size d
command_well scans size d = scan_well size d
command_well joins size d =
    if_passes IsWellFormed (size == 2) _ (λ e.
    if_mapped IsWellFormed join (option_and_then natural_of (get (codes "group") d)) (λ i. tt))
command_well compacts size d = if_passes IsWellFormed (size == 1) (Some compact) (λ e. tt)
command_well retypes size d =
    if_passes IsWellFormed (size == 2) _ (λ e.
    if_mapped IsWellFormed retype (option_and_then type_in (get (codes "dtype") d)) (λ k. tt))
command_well describes size d =
    if_passes IsWellFormed (size == 3) _ (λ e.
    if_bound IsWellFormed _ (option_and_then path_in (get (codes "path") d)) (λ path.
    if_mapped IsWellFormed (describe path) (option_and_then natural_of (get (codes "group") d)) (λ i. tt)))

pub reads_well : ReadsWell
reads_well line c e =
    if_so IsWellFormed (command_of line) c
    (if_bound IsWellFormed _ (data_of line) (λ d.
    if_passes IsWellFormed (keeps_whole d) (command_in d) (λ f.
    if_bound IsWellFormed _ (size_of d) (λ size.
    if_bound IsWellFormed _ (option_and_then verb_named (option_and_then as_str (get (codes "cmd") d))) (λ v.
    command_well v size d))))) e
