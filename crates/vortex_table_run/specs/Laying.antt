-- How commands lay out the rows of a session's table.
use Rattle.std.specs.Prelude.{◌≡◌, ℕ, List, [], Option, Some, None, IfSome, All}
use Rattle.vortex_model.specs.LogicalType.{LogicalType}
use Rattle.vortex_dtype_core.specs.View.{type_of}
use Rattle.vortex_arrays_model.specs.Layout.{Layout}
use Rattle.vortex_arrays_builder.specs.Types.{IsPlainLayout}
use Rattle.vortex_table_schema.specs.declared.layout.Layout as hint
use Rattle.vortex_table_layout.specs.Hinted.{HasHintedColumns}
use Rattle.vortex_table_core.specs.Arrays.{arrays_of, AddsArray, IsTakenBy, AreAllCompacted}
use Rattle.vortex_table_core.specs.declared.table.Table.{Table}
use Rattle.vortex_table_io.specs.declared.line_handler.Response.{Response}
use Rattle.vortex_table_io.specs.declared.line_handler.Response.TheVariants.{Done}
use Rattle.vortex_table_request.specs.Line.{command_of}
use Rattle.vortex_table_request.specs.Parsed.{data_of}
use Rattle.vortex_table_request.specs.View.{shown, HasHintsOf}
use Rattle.vortex_table_request.specs.declared.command.Command.{Command}
use Rattle.vortex_table_request.specs.declared.command.Command.TheVariants.{Create, Append, AppendArray, Compact, Retype}

-- the arrays of the table's chunks, and none without a table
abbrev pub arrays_in : Option Table → List Layout
arrays_in None = []
arrays_in (Some t) = arrays_of t

-- the array is added as the table takes it with the hints
abbrev pub AddsTaken : Option Table → List hint.Layout → Layout → List Layout → List Layout → Type 0
AddsTaken None hints a old new = new ≡ old
AddsTaken (Some t) hints a old new = AddsArray (IsTakenBy (type_of t.dtype) hints a) old new

-- a retype to the table's own type changes nothing, and one to another lays all rows out plain
abbrev pub LaysOutPlain : Option Table → LogicalType → List Layout → List Layout → Type 0
LaysOutPlain None k old new = new ≡ old
LaysOutPlain (Some t) k old new = (k ≡ type_of t.dtype → new ≡ old) ×
    ((¬ (k ≡ type_of t.dtype)) → All IsPlainLayout new)

-- what a command makes of the arrays of the table
abbrev pub LaysOut : Option Table → Command → List Layout → List Layout → Type 0
LaysOut t (Create dtype length lengths) old new = new ≡ []
LaysOut t (Append dtype values hints) old new = AddsArray (HasHintedColumns hints.items) old new
LaysOut t (AppendArray array hints) old new = AddsTaken t hints.items array old new
LaysOut t Compact old new = AreAllCompacted old new
LaysOut t (Retype dtype) old new = LaysOutPlain t (type_of dtype) old new
LaysOut t c old new = new ≡ old

-- what a line makes of them: what its command does, with the hints that the line has
abbrev pub LineLaysOut : Option Table → List ℕ → List Layout → List Layout → Type 0
LineLaysOut t line old new = (c : Command) × (command_of line ≡ Some (shown c)) ×
    IfSome (data_of line) (λ object. HasHintsOf object c) × LaysOut t c old new

-- this was made of the arrays where a command was done, and else they are as before
abbrev pub WhereDone : Response → (List Layout → List Layout → Type 0) →
    Option Table → Option Table → Type 0
WhereDone Done Makes old new = Makes (arrays_in old) (arrays_in new)
WhereDone response Makes old new = arrays_in new ≡ arrays_in old
