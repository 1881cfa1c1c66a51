-- The answers to lines.
use Rattle.std.specs.Prelude.{◌≡◌, ℕ, List, ◌⊎◌, Option, Some, None}
use Rattle.vortex_model_table.specs.Table.{Table}
use Rattle.vortex_model_table.specs.Command.{Command}
use Rattle.vortex_model_table.specs.Reply.{Answer, RespondsTo}
use Rattle.vortex_table_io.specs.Replies.{memory_text}
use Rattle.vortex_table_request.specs.Line.{command_of}
use Rattle.vortex_table_response.specs.Text.{bad_line_text}
use Rattle.vortex_table_response.specs.Answers.{text_of}
use Rattle.vortex_table_core.specs.Totals.{PassesTotal}

-- error 1, and nothing changes
abbrev pub LacksMemory : Option Table → List ℕ → Option Table → Type 0
LacksMemory old text new = (text ≡ memory_text) × (new ≡ old)

-- What is answered to a line by the command that it is. One that is no command is answered by
-- BadLine, and nothing changes.
abbrev pub AnswersTo : Option Command → Option Table → List ℕ → Option Table → Type 0
AnswersTo None old text new = (text ≡ bad_line_text) × (new ≡ old)
AnswersTo (Some c) old text new =
    (a : Answer) × RespondsTo PassesTotal old c a new × (text ≡ text_of a)

-- From the table, or none, this string may be the answer to this line, and then this table is left.
-- That memory ran out may be the answer to any line.
abbrev pub LineAnswers : Option Table → List ℕ → List ℕ → Option Table → Type 0
LineAnswers old line text new = LacksMemory old text new ⊎ AnswersTo (command_of line) old text new
