-- How a service answers lines, and what its log is then.
use Rattle.std.specs.Prelude.{◌≡◌, ◌≢◌, ◌⊎◌, ℕ, List, [], ◌∷◌, ◌++◌, Option, bytes_eq, if◌then◌else◌, refl}
use Rattle.std.proofs.Common.{inl}
use Rattle.vortex_model_table.specs.Table.{Table}
use Rattle.vortex_model_table.specs.Reply.{Replies}
use Rattle.vortex_table_io.specs.Lines.{IsOneLine, with_lf}
use Rattle.vortex_table_io.specs.Replies.{memory_text, ok_text}
use Rattle.vortex_table_response.specs.Text.{bad_line_text}
use Rattle.vortex_table_run.specs.LineAnswers.{LineAnswers}
use Rattle.example_service.specs.Log.{State, after_line, IsAccepted}

-- the log once the line was answered: the line is in it where the answer is `{"ok":true}`
abbrev pub logged : List ℕ → List ℕ → List ℕ → List ℕ
logged log line text = if bytes_eq text ok_text then log ++ with_lf line else log

-- the line was answered as the table answers it, and was logged or not
pub record IsServed (old : State) (line text : List ℕ) (new : State) : Type 0 where
  pub answers : LineAnswers old.table line text new.table
  pub log : new.log ≡ logged old.log line text
  pub one_line : text ≡ ok_text → IsOneLine line

-- From this state, this string may be the answer to this line, and then this state is left. Bytes
-- that hold an LF are no line, and are answered as a line is that is no command.
abbrev pub ServiceAnswers : State → List ℕ → List ℕ → State → Type 0
ServiceAnswers old line text new =
    IsServed old line text new ⊎
    ((¬ IsOneLine line) × (text ≡ bad_line_text) × (new ≡ old))

-- the lines that were answered by `{"ok":true}`
abbrev pub accepted : List (List ℕ) → List (List ℕ) → List (List ℕ)
accepted (line ∷ lines) (text ∷ texts) =
    if bytes_eq text ok_text then line ∷ accepted lines texts else accepted lines texts
accepted lines texts = []

-- some first of these lines left the state, and the others led on from it
pub record IsLeftBy (old : State) (lines texts : List (List ℕ)) (state last : State) : Type 0 where
  pub first : List (List ℕ)
  pub others : List (List ℕ)
  pub first_texts : List (List ℕ)
  pub other_texts : List (List ℕ)
  pub lines_are : lines ≡ first ++ others
  pub texts_are : texts ≡ first_texts ++ other_texts
  pub before : Replies ServiceAnswers old first first_texts state
  pub after : Replies ServiceAnswers state others other_texts last

-- the table may answer the line by neither `{"ok":true}` nor that memory ran out
abbrev pub IsRefused : Option Table → List ℕ → Type 0
IsRefused t line =
    (text : List ℕ) × LineAnswers t line text t × (text ≢ ok_text) × (text ≢ memory_text)

-- some first of these lines are accepted, and the next may be refused
abbrev pub HasRefused : Option Table → List (List ℕ) → Type 0
HasRefused t [] = ⊥
HasRefused t (line ∷ lines) =
    IsRefused t line ⊎ (IsAccepted t line × HasRefused (after_line t line) lines)

-- ---- for the impl of `LineHandler`

memory_is_not_ok : memory_text ≢ ok_text
memory_is_not_ok e = cc

-- each line may be answered by the line of error 1, as memory ran out
pub may_lack : (now : State) (line : List ℕ) → ServiceAnswers now line memory_text now
may_lack now line = inl record {
  answers = inl (refl, refl);
  log = refl;
  one_line = λ e. absurd (memory_is_not_ok e);
}
