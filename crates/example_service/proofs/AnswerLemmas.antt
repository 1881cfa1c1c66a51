-- What the answer to a line shows about the table.
use Rattle.std.proofs.Common.{◌≡◌, ◌≢◌, ◌⊎◌, ℕ, ◌==◌, List, [], ◌∷◌, ◌++◌, refl, ap, ◌∙◌, sym, subst, ◌↔◌, IsTrue, Bool, true, false, true≢false, Option, Some, None, inl, inr}
use Rattle.std.proofs.lemmas.List.{append_cancel_right}
use Rattle.vortex_model.specs.Refusal.{Refusal, total_passed, number_of, index_of}
use Rattle.vortex_model_table.specs.Table.{Table}
use Rattle.vortex_model_table.specs.Command.{Command, create, append, append_array, join, retype, compact, scan, describe, refusal_in, after_in, step_in}
use Rattle.vortex_model_table.specs.Reply.{Answers, Answer, accepted, out_of_memory, refused, found, described, SaysIn, RespondsTo}
use Rattle.vortex_table_core.specs.Totals.{PassesTotal}
use Rattle.vortex_table_io.specs.Lines.{with_lf}
use Rattle.vortex_table_io.specs.Replies.{memory_text, ok_text}
use Rattle.vortex_table_io.specs.Responses.{Says, response_line}
use Rattle.vortex_table_io.specs.declared.line_handler.Response.{Response}
use Rattle.vortex_table_io.specs.declared.line_handler.Response.TheVariants.{Written, Short, Done, NoMemory}
use Rattle.vortex_table_request.specs.Line.{command_of}
use Rattle.vortex_table_response.specs.Text.{bad_line_text, refusal_parts, scan_text, description_text}
use Rattle.vortex_table_response.specs.Answers.{text_of}
use Rattle.vortex_table_run.specs.LineAnswers.{LacksMemory, AnswersTo, LineAnswers}
use Rattle.example_service.specs.Log.{after_line, IsAccepted}

-- ---- strings other than `{"ok":true}`

-- whether the third byte is an `o`
abbrev has_o : List ℕ → Bool
has_o (a ∷ b ∷ c ∷ xs) = c == 111
has_o xs = false

pub differs : (text : List ℕ) → has_o text ≡ false → text ≢ ok_text
differs text f e = true≢false (sym (ap has_o e) ∙ f)

refusal_differs : (place : Option ℕ) (number : ℕ) (name : List ℕ) → has_o (refusal_parts place number name) ≡ false
refusal_differs None number name = refl
refusal_differs (Some i) number name = refl

ok_answer : (a : Answer) → text_of a ≡ ok_text → a ≡ accepted
ok_answer accepted e = refl
ok_answer out_of_memory e = absurd (differs memory_text refl e)
ok_answer (refused r) e = absurd (differs _ (refusal_differs (index_of r) (number_of r) _) e)
ok_answer (found a) e = absurd (differs (scan_text a) refl e)
ok_answer (described z) e = absurd (differs (description_text z) refl e)

-- ---- what follows for the table

steps : (t : Option Table) (c : Command) → refusal_in t c ≡ None → step_in t c ≡ after_in t c
steps t c e = ap (λ (o : Option Refusal). elim o [ None ↦ after_in t c | Some r ↦ t ]) e

ok_by : (old : Option Table) (o : Option Command) (text : List ℕ) (new : Option Table) → text ≡ ok_text → LacksMemory old text new ⊎ AnswersTo o old text new
    → ((c : Command) × (o ≡ Some c) × (refusal_in old c ≡ None)) × (new ≡ elim o [ None ↦ old | Some c ↦ step_in old c ])
ok_by old o text new e (inl lacks) = absurd (differs memory_text refl (sym lacks.0 ∙ e))
ok_by old None text new e (inr bad) = absurd (differs bad_line_text refl (sym bad.0 ∙ e))
ok_by old (Some c) text new e (inr says) =
    let r : RespondsTo PassesTotal old c accepted new = subst (λ (a : Answer). RespondsTo PassesTotal old c a new) (ok_answer says.0 (sym says.2 ∙ e)) says.1 in
    ((c, refl, r.0), r.2 ∙ sym (steps old c r.0))

-- a line that is answered by `{"ok":true}` is accepted, and its command was run
pub ok_accepted : (old : Option Table) (line text : List ℕ) (new : Option Table) → text ≡ ok_text → LineAnswers old line text new → IsAccepted old line × (new ≡ after_line old line)
ok_accepted old line text new e h = ok_by old (command_of line) text new e h

found_same : (old : Option Table) (c : Command) (a : Answer) → a ≢ accepted → SaysIn old c a → after_in old c ≡ old
found_same None c a n says = absurd (n says)
found_same (Some t) (scan paths e) a n says = refl
found_same (Some t) (describe path i) a n says = refl
found_same (Some t) c a n says = absurd (n says)

answer_same : (old : Option Table) (c : Command) (a : Answer) (new : Option Table) → a ≢ accepted → RespondsTo PassesTotal old c a new → new ≡ old
answer_same old c out_of_memory new n r = r
answer_same old c accepted new n r = absurd (n refl)
answer_same old c (refused total_passed) new n r = r.2
answer_same old c (refused q) new n r = r.1
answer_same old c (found a) new n r = r.2 ∙ found_same old c (found a) n r.1
answer_same old c (described z) new n r = r.2 ∙ found_same old c (described z) n r.1

same_by : (old : Option Table) (o : Option Command) (text : List ℕ) (new : Option Table) → text ≢ ok_text → LacksMemory old text new ⊎ AnswersTo o old text new → new ≡ old
same_by old o text new n (inl lacks) = lacks.1
same_by old None text new n (inr bad) = bad.1
same_by old (Some c) text new n (inr says) = answer_same old c says.0 new (λ e. n (says.2 ∙ ap text_of e)) says.1

-- a line with another answer changes nothing
pub else_same : (old : Option Table) (line text : List ℕ) (new : Option Table) → text ≢ ok_text → LineAnswers old line text new → new ≡ old
else_same old line text new n h = same_by old (command_of line) text new n h

-- ---- responses

module _ {S T : Type 0} where
  -- what each string that a response may be has to do with the states
  pub Says-map : (answers : Answers S (List ℕ)) (answers' : Answers T (List ℕ)) (old new : S) (old' new' : T) (line : List ℕ) (response : Response) (out : List ℕ)
      → ((text : List ℕ) → response_line response out ≡ with_lf text → answers old line text new → answers' old' line text new')
      → Says answers old line response out new → Says answers' old' line response out new'
  Says-map answers answers' old new old' new' line Written out f says = (says.0, f says.0 says.2 says.1, says.2)
  Says-map answers answers' old new old' new' line (Short text) out f says = f text refl says
  Says-map answers answers' old new old' new' line Done out f says = f ok_text refl says
  Says-map answers answers' old new old' new' line NoMemory out f says = f memory_text refl says

module _ {S : Type 0} where
  -- the string of a response
  pub Says-text : (answers : Answers S (List ℕ)) (old new : S) (line : List ℕ) (response : Response) (out : List ℕ) → Says answers old line response out new
      → (text : List ℕ) × answers old line text new × (response_line response out ≡ with_lf text)
  Says-text answers old new line Written out says = says
  Says-text answers old new line (Short text) out says = (text, says, refl)
  Says-text answers old new line Done out says = (ok_text, says, refl)
  Says-text answers old new line NoMemory out says = (memory_text, says, refl)

pub same_text : (response text other : List ℕ) → response ≡ with_lf text → response ≡ with_lf other → text ≡ other
same_text response text other e h = append_cancel_right text other (10 ∷ []) (sym e ∙ h)

-- what the test of an answer's string shows
module _ (response : Response) (read out text : List ℕ) (b : Bool) (e : read ≡ out) (test : IsTrue b ↔ (response_line response read ≡ with_lf text)) where
  pub is_text : IsTrue b → response_line response out ≡ with_lf text
  is_text t = subst (λ (x : List ℕ). response_line response x ≡ with_lf text) e (test.0 t)

  pub is_no_text : b ≡ false → response_line response out ≢ with_lf text
  is_no_text f is = true≢false (sym (test.1 (subst (λ (x : List ℕ). response_line response x ≡ with_lf text) (sym e) is)) ∙ f)
