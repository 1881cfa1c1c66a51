-- What contracts see of a command.
use Rattle.std.specs.Prelude.{◌≡◌, ℕ, List, map, Some, codes, Option, Result, IfOk}
use Rattle.std.specs.List.{range_with_len}
use Rattle.serde_json.specs.Data.{Data}
use Rattle.serde_json.specs.Find.{get}
use Rattle.vortex_model.specs.Content.{Raw}
use Rattle.vortex_model.specs.Path.{Step}
use Rattle.vortex_model_table.specs.Command as model
use Rattle.vortex_dtype_core.specs.View.{type_of}
use Rattle.vortex_dtype_path.specs.View.{steps_of}
use Rattle.vortex_dtype_path.specs.declared.path.FieldPath.{FieldPath}
use Rattle.vortex_scalar_value.specs.View.{raw_in}
use Rattle.vortex_arrays_model.specs.Layout.{Layout, array_type_of, len_of}
use Rattle.vortex_arrays_core.specs.RawRows.{raw_row}
use Rattle.vortex_table_schema.specs.declared.layout.Layout as rows
use Rattle.vortex_table_schema.specs.declared.layout.Layout.TheVariants as layout
use Rattle.vortex_table_request.specs.Line.{LayoutName, plain, dictionary, constant, layouts_in, VerbName, creates, appends, joins, retypes, compacts, scans, describes}
use Rattle.vortex_table_request.specs.Parsed.{Gives}
use Rattle.vortex_table_request.specs.declared.command.Verb as verbs
use Rattle.vortex_table_request.specs.declared.command.Verb.TheVariants as verb
use Rattle.vortex_table_request.specs.declared.command.Command.{Command}
use Rattle.vortex_table_request.specs.declared.command.Command.TheVariants.{Create, Append, AppendArray, Join, Retype, Compact, Scan, Describe}
use Rattle.vortex_table_request.specs.declared.parse_error.ParseError.{ParseError}

abbrev pub layout_of : rows.Layout → LayoutName
layout_of layout.Plain = plain
layout_of layout.Dictionary = dictionary
layout_of layout.Constant = constant

abbrev pub verb_of : verbs.Verb → VerbName
verb_of verb.Create = creates
verb_of verb.Append = appends
verb_of verb.Compact = compacts
verb_of verb.Scan = scans
verb_of verb.Join = joins
verb_of verb.Retype = retypes
verb_of verb.Describe = describes

-- a leaf's path with its bound length
abbrev pub entry_of : FieldPath × ℕ → List Step × ℕ
entry_of entry = (steps_of entry.0, entry.1)

-- the raw values of the rows of an array
abbrev pub raw_rows : Layout → List Raw
raw_rows a = map (raw_row a) (range_with_len 0 (len_of a))

abbrev pub shown : Command → model.Command
shown (Create dtype length lengths) =
    model.create (type_of dtype) length (map entry_of lengths.items)
shown (Append dtype values layouts) = model.append (type_of dtype) (map raw_in values.items)
shown (AppendArray array layouts) = model.append (array_type_of array) (raw_rows array)
shown (Scan paths predicate) = model.scan (map steps_of paths.items) predicate
shown (Join group) = model.join group
shown (Retype dtype) = model.retype (type_of dtype)
shown Compact = model.compact
shown (Describe path group) = model.describe (steps_of path) group

-- the hints of an append are those of the object
abbrev pub HasHintsOf : Data → Command → Type 0
HasHintsOf d (Append dtype values layouts) =
    layouts_in (get (codes "layouts") d) ≡ Some (map layout_of layouts.items)
HasHintsOf d (AppendArray array layouts) =
    layouts_in (get (codes "layouts") d) ≡ Some (map layout_of layouts.items)
HasHintsOf d c = Unit {0}

-- the object was read as this command, with the object's hints
abbrev pub ReadsAs : Data → Result Command ParseError → Option model.Command → Type 0
ReadsAs d result command = Gives shown result command × IfOk result (HasHintsOf d)
