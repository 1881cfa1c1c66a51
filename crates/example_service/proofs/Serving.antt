-- What a service was, is and logs.
use Rattle.std.proofs.Common.{◌≡◌, ◌≢◌, ◌⊎◌, ℕ, List, [], ◌∷◌, ◌++◌, refl, ap, ◌∙◌, sym, subst, Bool, true, false, true≢false, Option, Some, None, inl, inr, if◌then◌else◌, bytes_eq, append-nil, append_assoc, flat_map}
use Rattle.std.specs.List.{AllByRecursion}
use Rattle.std.proofs.lemmas.List.{append_cancel_left}
use Rattle.std.proofs.lemmas.List.Elements.{recursion_from_All}
use Rattle.std.proofs.lemmas.Slice.Eq.{bytes_eq-Decides}
use Rattle.vortex_model_table.specs.Table.{Table}
use Rattle.vortex_model_table.specs.Reply.{Replies}
use Rattle.vortex_table_io.specs.Lines.{IsOneLine, with_lf}
use Rattle.vortex_table_io.specs.Replies.{memory_text, ok_text}
use Rattle.vortex_table_io.specs.Responses.{Says, response_line}
use Rattle.vortex_table_io.specs.declared.line_handler.Response.{Response}
use Rattle.vortex_table_response.specs.Text.{bad_line_text}
use Rattle.vortex_table_run.specs.LineAnswers.{LineAnswers}
use Rattle.example_service.specs.Log.{State, state_of, start, whole_lines, after_line, after_lines, with_line, with_lines, replayed, IsAccepted, AreAccepted}
use Rattle.example_service.specs.Served.{logged, IsServed, ServiceAnswers, accepted, IsLeftBy}
use Rattle.example_service.proofs.LogLemmas.{Plain, state_is, whole_lines-append, whole_lines-ended, whole_lines-behind, replayed-behind, replayed-line, with_lines-none, with_lines-more}
use Rattle.example_service.proofs.AnswerLemmas.{differs, ok_accepted, else_same, Says-map, Says-text, same_text}

-- ---- one line

-- the test of a string, by whether it is that string
test_ok : (text : List ℕ) → text ≡ ok_text → bytes_eq text ok_text ≡ true
test_ok text e = ap (λ (x : List ℕ). bytes_eq x ok_text) e

test_other : (text : List ℕ) (b : Bool) → bytes_eq text ok_text ≡ b → text ≢ ok_text → b ≡ false
test_other text true e n = absurd (n ((bytes_eq-Decides text ok_text).0 e))
test_other text false e n = refl

pub is_other : (text : List ℕ) → bytes_eq text ok_text ≡ false → text ≢ ok_text
is_other text e h = true≢false (sym (test_ok text h) ∙ e)

logged-ok : (log line text : List ℕ) → text ≡ ok_text → logged log line text ≡ log ++ with_lf line
logged-ok log line text e = ap (λ (b : Bool). if b then log ++ with_lf line else log) (test_ok text e)

logged-other : (log line text : List ℕ) → text ≢ ok_text → logged log line text ≡ log
logged-other log line text n = ap (λ (b : Bool). if b then log ++ with_lf line else log) (test_other text (bytes_eq text ok_text) refl n)

module _ (old new : State) (line : List ℕ) (response : Response) (out : List ℕ) (i : IsOneLine line) (says : Says LineAnswers old.table line response out new.table) where
  -- the answer is `{"ok":true}`, and the line was logged
  pub served_ok : response_line response out ≡ with_lf ok_text → new.log ≡ old.log ++ with_lf line → Says ServiceAnswers old line response out new
  served_ok ok log = Says-map LineAnswers ServiceAnswers old.table new.table old new line response out
      (λ text e h. inl record {
        answers = h;
        log = log ∙ sym (logged-ok old.log line text (same_text (response_line response out) text ok_text e ok));
        one_line = λ _. i;
      }) says

  -- it is another, and the log is as before
  pub served_other : response_line response out ≢ with_lf ok_text → new.log ≡ old.log → Says ServiceAnswers old line response out new
  served_other other log = Says-map LineAnswers ServiceAnswers old.table new.table old new line response out
      (λ text e h. inl record {
        answers = h;
        log = log ∙ sym (logged-other old.log line text (λ t. other (e ∙ ap with_lf t)));
        one_line = λ _. i;
      }) says

  -- the log leads to the state again
  pub replayed_ok : replayed old.log ≡ old → response_line response out ≡ with_lf ok_text → replayed (old.log ++ with_lf line) ≡ state_of new.table (old.log ++ with_lf line)
  replayed_ok h ok =
      let text = Says-text LineAnswers old.table new.table line response out says in
      let now = ok_accepted old.table line text.0 new.table (same_text (response_line response out) text.0 ok_text text.2 ok) text.1 in
      replayed-line old line h i ∙ state_is (sym now.1) refl

  pub table_other : response_line response out ≢ with_lf ok_text → new.table ≡ old.table
  table_other other =
      let text = Says-text LineAnswers old.table new.table line response out says in
      else_same old.table line text.0 new.table (λ t. other (text.2 ∙ ap with_lf t)) text.1

-- the log leads to the new state
pub leads_more : (new : State) (log : List ℕ) → new.log ≡ log → replayed log ≡ state_of new.table log → replayed new.log ≡ new
leads_more new log l r = ap replayed l ∙ r ∙ state_is refl (sym l)

pub leads_still : (old new : State) → replayed old.log ≡ old → new.table ≡ old.table → new.log ≡ old.log → replayed new.log ≡ new
leads_still old new h t l = ap replayed l ∙ h ∙ sym (state_is t l)

-- the line was accepted, run and logged
pub record IsRun (old : State) (line text : List ℕ) (new : State) : Type 0 where
  pub ok : bytes_eq text ok_text ≡ true
  pub one_line : IsOneLine line
  pub accepts : IsAccepted old.table line
  pub state : new ≡ with_line old line

-- nothing was changed
pub record IsKept (old : State) (text : List ℕ) (new : State) : Type 0 where
  pub other : bytes_eq text ok_text ≡ false
  pub state : new ≡ old

by_test : (b : Bool) (old : State) (line text : List ℕ) (new : State) → bytes_eq text ok_text ≡ b → IsServed old line text new → IsRun old line text new ⊎ IsKept old text new
by_test true old line text new e s =
    let is = (bytes_eq-Decides text ok_text).0 e in
    let now = ok_accepted old.table line text new.table is s.answers in
    inl record { ok = e; one_line = s.one_line is; accepts = now.0; state = state_is now.1 (s.log ∙ logged-ok old.log line text is) }
by_test false old line text new e s =
    let n = is_other text e in
    inr record { other = e; state = state_is (else_same old.table line text new.table n s.answers) (s.log ∙ logged-other old.log line text n) }

-- either of both
pub served : (old : State) (line text : List ℕ) (new : State) → ServiceAnswers old line text new → IsRun old line text new ⊎ IsKept old text new
served old line text new (inl s) = by_test (bytes_eq text ok_text) old line text new refl s
served old line text new (inr none) = inr record {
  other = test_other text (bytes_eq text ok_text) refl (λ e. differs bad_line_text refl (sym none.1 ∙ e));
  state = none.2;
}

pub unchanged : (old : State) (line text : List ℕ) (new : State) → ServiceAnswers old line text new → text ≢ ok_text → new ≡ old
unchanged old line text new h n =
    elim (served old line text new h) [
      | inl run ↦ absurd (n ((bytes_eq-Decides text ok_text).0 run.ok))
      | inr kept ↦ kept.state
    ]

-- ---- all lines

-- where these lines lead, if they are accepted
pub record Leads (old last : State) (lines : List (List ℕ)) : Type 0 where
  pub state : last ≡ with_lines old lines
  pub plain : AllByRecursion Plain lines
  pub accepts : AreAccepted old.table lines

leads_step : (old mid last : State) (line text : List ℕ) (lines : List (List ℕ)) → IsRun old line text mid ⊎ IsKept old text mid → Leads mid last lines
    → Leads old last (if bytes_eq text ok_text then line ∷ lines else lines)
leads_step old mid last line text lines (inl run) h =
    subst (λ (b : Bool). Leads old last (if b then line ∷ lines else lines)) (sym run.ok) record {
      state = h.state ∙ ap (λ (z : State). with_lines z lines) run.state ∙ sym (with_lines-more old line lines);
      plain = (recursion_from_All (λ b. b ≢ 10) line run.one_line, h.plain);
      accepts = (run.accepts, subst (λ (z : State). AreAccepted z.table lines) run.state h.accepts);
    }
leads_step old mid last line text lines (inr kept) h =
    subst (λ (b : Bool). Leads old last (if b then line ∷ lines else lines)) (sym kept.other)
    (subst (λ (z : State). Leads z last lines) kept.state h)

leads : (old : State) (lines texts : List (List ℕ)) (last : State) → Replies ServiceAnswers old lines texts last → Leads old last (accepted lines texts)
leads old [] [] last r = record { state = r ∙ sym (with_lines-none old); plain = tt; accepts = tt }
leads old [] (text ∷ texts) last r = absurd r
leads old (line ∷ lines) [] last r = absurd r
leads old (line ∷ lines) (text ∷ texts) last r =
    leads_step old r.0 last line text (accepted lines texts) (served old line text r.0 r.1) (leads r.0 lines texts last r.2)

AreAccepted-append : (t : Option Table) (xs ys : List (List ℕ)) → AreAccepted t xs → AreAccepted (after_lines t xs) ys → AreAccepted t (xs ++ ys)
AreAccepted-append t [] ys h k = k
AreAccepted-append t (x ∷ xs) ys h k = (h.0, AreAccepted-append (after_line t x) xs ys h.1 k)

module _ (old : State) (lines texts : List (List ℕ)) (last : State) (h : replayed old.log ≡ old) (r : Replies ServiceAnswers old lines texts last) where
  log_is : last.log ≡ old.log ++ flat_map with_lf (accepted lines texts)
  log_is = ap (λ (z : State). z.log) (leads old lines texts last r).state

  ended_is : whole_lines (flat_map with_lf (accepted lines texts)) ≡ accepted lines texts
  ended_is = whole_lines-ended (accepted lines texts) (leads old lines texts last r).plain

  pub lines_of : whole_lines last.log ≡ whole_lines old.log ++ accepted lines texts
  lines_of =
      ap whole_lines log_is ∙ whole_lines-behind old (flat_map with_lf (accepted lines texts)) h ∙ ap (λ (ls : List (List ℕ)). whole_lines old.log ++ ls) ended_is

  pub same_state : replayed last.log ≡ last
  same_state =
      ap replayed log_is ∙ replayed-behind old (flat_map with_lf (accepted lines texts)) h ∙ ap (with_lines old) ended_is ∙ sym (leads old lines texts last r).state

  pub all_accepted : AreAccepted start.table (whole_lines old.log) → AreAccepted start.table (whole_lines last.log)
  all_accepted before =
      subst (AreAccepted start.table) (sym lines_of) (AreAccepted-append start.table (whole_lines old.log) (accepted lines texts) before
      (subst (λ (z : State). AreAccepted z.table (accepted lines texts)) (sym h) (leads old lines texts last r).accepts))

-- ---- a front of the log

abbrev tail_of : List (List ℕ) → List (List ℕ)
tail_of [] = []
tail_of (x ∷ xs) = xs

abbrev head_of : List (List ℕ) → List ℕ
head_of [] = []
head_of (x ∷ xs) = x

one_before : (old mid : State) (line text : List ℕ) (lines texts : List (List ℕ)) (state last : State) → ServiceAnswers old line text mid → IsLeftBy mid lines texts state last
    → IsLeftBy old (line ∷ lines) (text ∷ texts) state last
one_before old mid line text lines texts state last a h = record {
  first = line ∷ h.first;
  others = h.others;
  first_texts = text ∷ h.first_texts;
  other_texts = h.other_texts;
  lines_are = ap (λ (x : List (List ℕ)). line ∷ x) h.lines_are;
  texts_are = ap (λ (x : List (List ℕ)). text ∷ x) h.texts_are;
  before = (mid, a, h.before);
  after = h.after;
}

-- the state is left where its lines are the first of those that are accepted
abbrev IsLeftAt : State → List (List ℕ) → List (List ℕ) → State → List (List ℕ) → Type 0
IsLeftAt old lines texts last firsts = IsLeftBy old lines texts (with_lines old firsts) last

left_step : (old mid : State) (line text : List ℕ) (lines texts : List (List ℕ)) (last : State) (k : List ℕ) (ks more : List (List ℕ)) → ServiceAnswers old line text mid
    → IsRun old line text mid ⊎ IsKept old text mid → ((js others : List (List ℕ)) → accepted lines texts ≡ js ++ others → IsLeftAt mid lines texts last js)
    → accepted (line ∷ lines) (text ∷ texts) ≡ k ∷ (ks ++ more) → IsLeftAt old (line ∷ lines) (text ∷ texts) last (k ∷ ks)
left_step old mid line text lines texts last k ks more a (inl run) left e =
    let both : line ∷ accepted lines texts ≡ k ∷ (ks ++ more) = sym (ap (λ (b : Bool). if b then line ∷ accepted lines texts else accepted lines texts) run.ok) ∙ e in
    subst (λ (z : State). IsLeftBy old (line ∷ lines) (text ∷ texts) z last)
    (ap (λ (z : State). with_lines z ks) (run.state ∙ ap (with_line old) (ap head_of both)) ∙ sym (with_lines-more old k ks))
    (one_before old mid line text lines texts (with_lines mid ks) last a (left ks more (ap tail_of both)))
left_step old mid line text lines texts last k ks more a (inr kept) left e =
    let both : accepted lines texts ≡ k ∷ (ks ++ more) = sym (ap (λ (b : Bool). if b then line ∷ accepted lines texts else accepted lines texts) kept.other) ∙ e in
    subst (λ (z : State). IsLeftBy old (line ∷ lines) (text ∷ texts) z last) (ap (λ (z : State). with_lines z (k ∷ ks)) kept.state)
    (one_before old mid line text lines texts (with_lines mid (k ∷ ks)) last a (left (k ∷ ks) more both))

left_at : (old : State) (lines texts : List (List ℕ)) (last : State) (ks more : List (List ℕ)) → Replies ServiceAnswers old lines texts last → accepted lines texts ≡ ks ++ more → IsLeftAt old lines texts last ks
left_at old lines texts last [] more r e = record {
  first = [];
  others = lines;
  first_texts = [];
  other_texts = texts;
  lines_are = refl;
  texts_are = refl;
  before = with_lines-none old;
  after = subst (λ (z : State). Replies ServiceAnswers z lines texts last) (sym (with_lines-none old)) r;
}
left_at old [] [] last (k ∷ ks) more r e = absurd (cc e)
left_at old [] (text ∷ texts) last (k ∷ ks) more r e = absurd r
left_at old (line ∷ lines) [] last (k ∷ ks) more r e = absurd r
left_at old (line ∷ lines) (text ∷ texts) last (k ∷ ks) more r e =
    left_step old r.0 line text lines texts last k ks more r.1 (served old line text r.0 r.1)
    (λ js others same. left_at r.0 lines texts last js others r.2 same) e

-- a log that is cut leads to the state that some first of the lines left
pub cut_of : (old : State) (lines texts : List (List ℕ)) (last : State) (front back : List ℕ) → replayed old.log ≡ old → Replies ServiceAnswers old lines texts last
    → (old.log ++ front) ++ back ≡ last.log → IsLeftBy old lines texts (replayed (old.log ++ front)) last
cut_of old lines texts last front back h r e =
    let more = whole_lines-append front back in
    let parts : front ++ back ≡ flat_map with_lf (accepted lines texts) =
    append_cancel_left old.log (front ++ back) (flat_map with_lf (accepted lines texts)) (sym (append_assoc old.log front back) ∙ e ∙ log_is old lines texts last h r) in
    subst (λ (z : State). IsLeftBy old lines texts z last) (sym (replayed-behind old front h))
    (left_at old lines texts last (whole_lines front) more.0 r (sym (ended_is old lines texts last h r) ∙ ap whole_lines (sym parts) ∙ more.1))
