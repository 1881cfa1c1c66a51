-- A log of lines, and the table that it leads to.
use Rattle.std.specs.Prelude.{◌≡◌, ℕ, ◌==◌, List, [], ◌∷◌, ◌++◌, flat_map, Option, Some, None, if◌then◌else◌}
use Rattle.vortex_model_table.specs.Table.{Table}
use Rattle.vortex_model_table.specs.Command.{Command, refusal_in, step_in}
use Rattle.vortex_table_io.specs.Lines.{with_lf}
use Rattle.vortex_table_request.specs.Line.{command_of}

-- a table, or none, and the log of the lines that changed it
pub record State : Type 0 where
  pub table : Option Table
  pub log : List ℕ

abbrev pub state_of : Option Table → List ℕ → State
state_of t log = record { table = t; log = log }

-- a service begins without a table
abbrev pub start : State
start = state_of None []

-- ---- lines

-- the byte begins the first line, where there is a line
abbrev pub onto_first : ℕ → List (List ℕ) → List (List ℕ)
onto_first b [] = []
onto_first b (line ∷ lines) = (b ∷ line) ∷ lines

-- the lines that have their LF: what follows the last LF is left out
abbrev pub whole_lines : List ℕ → List (List ℕ)
whole_lines [] = []
whole_lines (b ∷ bs) = if b == 10 then [] ∷ whole_lines bs else onto_first b (whole_lines bs)

-- ---- the state that lines lead to

-- what the line's command makes of the table
abbrev pub after_line : Option Table → List ℕ → Option Table
after_line t line = elim (command_of line) [ None ↦ t | Some c ↦ step_in t c ]

abbrev pub after_lines : Option Table → List (List ℕ) → Option Table
after_lines t [] = t
after_lines t (line ∷ lines) = after_lines (after_line t line) lines

-- the line was run and logged
abbrev pub with_line : State → List ℕ → State
with_line s line = state_of (after_line s.table line) (s.log ++ with_lf line)

-- the lines were run and logged
abbrev pub with_lines : State → List (List ℕ) → State
with_lines s lines = state_of (after_lines s.table lines) (s.log ++ flat_map with_lf lines)

-- the state that a log leads to, by its whole lines
abbrev pub replayed : List ℕ → State
replayed log = with_lines start (whole_lines log)

-- ---- which lines are accepted

-- the line is a command that the table accepts
abbrev pub IsAccepted : Option Table → List ℕ → Type 0
IsAccepted t line = (c : Command) × (command_of line ≡ Some c) × (refusal_in t c ≡ None)

-- each line is a command that is accepted once the lines before it were run
abbrev pub AreAccepted : Option Table → List (List ℕ) → Type 0
AreAccepted t [] = Unit {0}
AreAccepted t (line ∷ lines) = IsAccepted t line × AreAccepted (after_line t line) lines
