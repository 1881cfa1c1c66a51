-- The answers to a command.
use Rattle.std.specs.Prelude.{◌≡◌, ℕ, List, Option, Some, None}
use Rattle.vortex_model_table.specs.Table.{Table}
use Rattle.vortex_model_table.specs.Command.{Command}
use Rattle.vortex_model.specs.Refusal.{total_passed}
use Rattle.vortex_model_table.specs.Reply.{Answer, accepted, out_of_memory, refused, RespondsTo}
use Rattle.vortex_table_schema.specs.Error.{refusal_of}
use Rattle.vortex_table_schema.specs.declared.error.TableError.{TableError}
use Rattle.vortex_table_schema.specs.declared.error.TableError.TheVariants as error
use Rattle.vortex_table_response.specs.Answers.{text_of}
use Rattle.vortex_table_core.specs.Totals.{PassesTotal}
use Rattle.vortex_table_io.specs.Lines.{with_lf}
use Rattle.vortex_table_io.specs.declared.line_handler.Response.{Response}
use Rattle.vortex_table_io.specs.declared.line_handler.Response.TheVariants.{Written, Short, Done, NoMemory}

-- this answer was given, where the buffer holds this
abbrev pub IsWrittenAs : Answer → Response → List ℕ → Type 0
IsWrittenAs a Written out = out ≡ with_lf (text_of a)
IsWrittenAs a (Short text) out = text ≡ text_of a
IsWrittenAs a Done out = a ≡ accepted
IsWrittenAs a NoMemory out = a ≡ out_of_memory

-- an answer to the command was given
abbrev pub Responds : Option Table → Command → Response → List ℕ → Option Table → Type 0
Responds old c response out new =
    (a : Answer) × RespondsTo PassesTotal old c a new × IsWrittenAs a response out

-- the answer that an error is
abbrev pub error_answer : TableError → Answer
error_answer error.Total = refused total_passed
error_answer e = elim (refusal_of e) [ None ↦ out_of_memory | Some r ↦ refused r ]
