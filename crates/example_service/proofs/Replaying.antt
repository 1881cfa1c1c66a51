-- A log that is replayed line by line.
use Rattle.std.proofs.Common.{◌≡◌, ◌≢◌, ◌⊎◌, ℕ, List, [], ◌∷◌, ◌++◌, refl, ap, ◌∙◌, sym, subst, inl, inr}
use Rattle.vortex_table_io.specs.Lines.{IsOneLine, with_lf}
use Rattle.vortex_table_io.specs.Replies.{memory_text, ok_text}
use Rattle.vortex_table_io.specs.Responses.{Says, response_line}
use Rattle.vortex_table_io.specs.declared.line_handler.Response.{Response}
use Rattle.vortex_table_response.specs.Text.{bad_line_text}
use Rattle.vortex_table_run.specs.LineAnswers.{LineAnswers}
use Rattle.example_service.specs.Log.{State, start, whole_lines, after_line, with_line, with_lines, replayed, IsAccepted, AreAccepted}
use Rattle.example_service.specs.Served.{ServiceAnswers, IsRefused, HasRefused, may_lack}
use Rattle.example_service.proofs.LogLemmas.{whole_lines-line, whole_lines-unended, with_lines-none, with_lines-more}
use Rattle.example_service.proofs.AnswerLemmas.{else_same, Says-text, same_text}
use Rattle.example_service.proofs.Serving.{served, is_other}

-- ---- the answer to one line

pub not_a_line : (old new : State) (line text : List ℕ) → ¬ IsOneLine line → text ≡ bad_line_text → new ≡ old → ServiceAnswers old line text new
not_a_line old new line text n e h = inr (n, e, h)

pub lacks : (old new : State) (line : List ℕ) → new ≡ old → ServiceAnswers old line memory_text new
lacks old new line e = subst (λ (z : State). ServiceAnswers old line memory_text z) (sym e) (may_lack old line)

module _ (old new : State) (line : List ℕ) (response : Response) (out : List ℕ) (says : Says ServiceAnswers old line response out new) where
  pub taken_ok : response_line response out ≡ with_lf ok_text → (new ≡ with_line old line) × IsAccepted old.table line
  taken_ok ok =
      let text = Says-text ServiceAnswers old new line response out says in
      elim (served old line text.0 new text.1) [
        | inl run ↦ (run.state, run.accepts)
        | inr kept ↦ absurd (is_other text.0 kept.other (same_text (response_line response out) text.0 ok_text text.2 ok))
      ]

  pub taken_refused : IsOneLine line → response_line response out ≢ with_lf ok_text → response_line response out ≢ with_lf memory_text → IsRefused old.table line
  taken_refused i other more =
      let text = Says-text ServiceAnswers old new line response out says in
      let n : text.0 ≢ ok_text = λ t. other (text.2 ∙ ap with_lf t) in
      let m : text.0 ≢ memory_text = λ t. more (text.2 ∙ ap with_lf t) in
      elim text.1 [
        | inl s ↦ (text.0, subst (LineAnswers old.table line text.0) (else_same old.table line text.0 new.table n s.answers) s.answers, n, m)
        | inr none ↦ absurd (none.0 i)
      ]

-- ---- the lines of a log

-- what is left leads from the state to where the log leads
pub record IsPartway (log rest : List ℕ) (now : State) : Type 0 where
  pub same : with_lines now (whole_lines rest) ≡ replayed log
  pub accepts : AreAccepted now.table (whole_lines rest) → AreAccepted start.table (whole_lines log)
  pub refuses : HasRefused now.table (whole_lines rest) → HasRefused start.table (whole_lines log)

pub partway_start : (log : List ℕ) (now : State) → now ≡ start → IsPartway log log now
partway_start log now e = record {
  same = ap (λ (z : State). with_lines z (whole_lines log)) e;
  accepts = λ h. subst (λ (z : State). AreAccepted z.table (whole_lines log)) e h;
  refuses = λ h. subst (λ (z : State). HasRefused z.table (whole_lines log)) e h;
}

module _ (log rest line after : List ℕ) (now : State) (i : IsOneLine line) (e : rest ≡ line ++ 10 ∷ after) (h : IsPartway log rest now) where
  lines_are : whole_lines rest ≡ line ∷ whole_lines after
  lines_are = ap whole_lines e ∙ whole_lines-line line after i

  pub partway_next : (next : State) → next ≡ with_line now line → IsAccepted now.table line → IsPartway log after next
  partway_next next is accepts = record {
    same = ap (λ (z : State). with_lines z (whole_lines after)) is ∙ sym (with_lines-more now line (whole_lines after)) ∙ ap (with_lines now) (sym lines_are) ∙ h.same;
    accepts = λ all. h.accepts (subst (AreAccepted now.table) (sym lines_are) (accepts, subst (λ (z : State). AreAccepted z.table (whole_lines after)) is all));
    refuses = λ some. h.refuses (subst (HasRefused now.table) (sym lines_are) (inr (accepts, subst (λ (z : State). HasRefused z.table (whole_lines after)) is some)));
  }

  pub partway_refused : IsRefused now.table line → HasRefused start.table (whole_lines log)
  partway_refused refused = h.refuses (subst (HasRefused now.table) (sym lines_are) (inl refused))

module _ (log rest : List ℕ) (now : State) (i : IsOneLine rest) (h : IsPartway log rest now) where
  pub partway_state : now ≡ replayed log
  partway_state = sym (with_lines-none now) ∙ ap (with_lines now) (sym (whole_lines-unended rest i)) ∙ h.same

  pub partway_accepted : AreAccepted start.table (whole_lines log)
  partway_accepted = h.accepts (subst (AreAccepted now.table) (sym (whole_lines-unended rest i)) tt)
