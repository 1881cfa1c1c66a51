-- What is promised of a run as a whole: exact answers, whatever commands come.
use Rattle.std.specs.Prelude.{◌≡◌, ◌↔◌, ◌⊎◌, ℕ, List, [], ◌∷◌, ◌++◌, length, map, filter, Contains, Option, Some, None, true}
use Rattle.vortex_model.specs.Content.{Content}
use Rattle.vortex_model.specs.Path.{Names}
use Rattle.vortex_model_table.specs.Expression.{Expression}
use Rattle.vortex_model_table.specs.Truth.{selects}
use Rattle.vortex_model_table.specs.Cut.{cut_row, cut_type}
use Rattle.vortex_model_table.specs.Table.{Table}
use Rattle.vortex_model_table.specs.Scan.{ScanAnswer}
use Rattle.vortex_model_table.specs.Class.{Hopeless, is_wide, is_bounded}
use Rattle.vortex_model_table.specs.Command.{Command, scan, names_of}
use Rattle.vortex_model_table.specs.Reply.{Answer, out_of_memory, refused, found, RespondsTo}
use Rattle.vortex_model_laws.specs.Exact.{box_of_chunk}
use Rattle.vortex_model_laws.specs.Runs.{rows_by}
use Rattle.vortex_table_io.specs.Replies.{memory_text}
use Rattle.vortex_table_core.specs.Totals.{PassesTotal}
use Rattle.vortex_table_request.specs.Line.{command_of}
use Rattle.vortex_table_response.specs.Text.{bad_line_text}
use Rattle.vortex_table_response.specs.Answers.{text_of}

-- the table, or none, and the rows that accepted appends have handed in since it was created
pub record State : Type 0 where
  pub table : Option Table
  pub handed : List Content

-- a run begins without a table
abbrev pub start : State
start = record { table = None; handed = [] }

-- The answer to a scan of a table to which these rows were handed in: those that satisfy the
-- predicate, in order, cut to what the paths cover. Where the predicate is of the wide class, a
-- chunk whose columns outside null tests have both bounds is skipped exactly where its box is
-- hopeless: no choice of values in it satisfies the predicate.
pub record IsExact (t : Table) (handed : List Content) (paths : List Names) (e : Expression)
    (a : ScanAnswer) : Type 0 where
  pub rows : a.rows ≡ map (cut_row paths t.kind) (filter (selects t.kind e) handed)
  pub kind : a.kind ≡ cut_type paths t.kind
  pub skips : (before : List (List Content)) (chunk : List Content) (after : List (List Content)) →
      is_wide e ≡ true → t.chunks ≡ before ++ chunk ∷ after →
      is_bounded (box_of_chunk t chunk) e ≡ true →
      Contains a.skipped (length before) ↔ Hopeless t.kind e (box_of_chunk t chunk)

-- the answer to an accepted scan is exact
abbrev pub IsExactScan : State → Answer → Command → Type 0
IsExactScan old (found a) (scan paths e) =
    (t : Table) → old.table ≡ Some t → IsExact t old.handed (map names_of paths) e a
IsExactScan old a c = Unit {0}

-- the rows that are handed in once the command is answered: it hands in rows where it is accepted
abbrev pub handed_after : List Content → Answer → Command → List Content
handed_after handed (refused r) c = handed
handed_after handed out_of_memory c = handed
handed_after handed a c = rows_by c handed

-- A command is accepted exactly where it is defined, and else changes nothing. A scan is answered
-- exactly.
pub record RespondsExactly (old : State) (c : Command) (a : Answer) (new : State) : Type 0 where
  pub responds : RespondsTo PassesTotal old.table c a new.table
  pub handed : new.handed ≡ handed_after old.handed a c
  pub scan : IsExactScan old a c

-- A line that is no command is answered by BadLine, and nothing changes.
abbrev pub AnswersExactly : Option Command → State → List ℕ → State → Type 0
AnswersExactly None old text new = (text ≡ bad_line_text) × (new ≡ old)
AnswersExactly (Some c) old text new =
    (a : Answer) × RespondsExactly old c a new × (text ≡ text_of a)

-- From this state, this string may be the answer to this line, and then this state is left. That
-- memory ran out may be the answer to any line, and changes nothing.
abbrev pub ExactAnswers : State → List ℕ → List ℕ → State → Type 0
ExactAnswers old line text new =
    ((text ≡ memory_text) × (new ≡ old)) ⊎ AnswersExactly (command_of line) old text new
