-- The line of a `Response`.
use Rattle.std.specs.Prelude.{◌≡◌, ℕ, List}
use Rattle.vortex_model_table.specs.Reply.{Answers}
use Rattle.vortex_table_io.specs.Lines.{with_lf}
use Rattle.vortex_table_io.specs.Replies.{memory_text, ok_text}
use Rattle.vortex_table_io.specs.declared.line_handler.Response.{Response}
use Rattle.vortex_table_io.specs.declared.line_handler.Response.TheVariants.{Written, Short, Done, NoMemory}

-- a handler's answer, of which this was written to its buffer
abbrev pub Says : {S : Type 0} → Answers S (List ℕ) → S → List ℕ → Response → List ℕ → S → Type 0
Says answers old line Written out new =
    (text : List ℕ) × answers old line text new × (out ≡ with_lf text)
Says answers old line (Short text) out new = answers old line text new
Says answers old line Done out new = answers old line ok_text new
Says answers old line NoMemory out new = answers old line memory_text new

-- a response with its LF, of which this was written to its buffer
abbrev pub response_line : Response → List ℕ → List ℕ
response_line Written out = out
response_line (Short text) out = with_lf text
response_line Done out = with_lf ok_text
response_line NoMemory out = with_lf memory_text

abbrev pub SaysLine : {S : Type 0} → Answers S (List ℕ) → S → List ℕ → List ℕ → S → Type 0
SaysLine answers old line response new =
    (text : List ℕ) × answers old line text new × (response ≡ with_lf text)
