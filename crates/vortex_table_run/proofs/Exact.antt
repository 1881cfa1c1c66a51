-- Each line of a run is answered exactly.
use Rattle.std.proofs.Common.{◌≡◌, refl, sym, ◌∙◌, ap, subst, ℕ, List, [], ◌∷◌, ◌++◌, map, length, Option, Some, None, filter, ◌⊎◌, inl, inr, Result, Ok, Err, OnOk, OnErr, IfErr}
use Rattle.std.proofs.lemmas.Grind.{flat_map-append}
use Rattle.std.proofs.lemmas.List.{append-nil}
use Rattle.vortex_model.specs.LogicalType.{struct, no_fields, non_nullable}
use Rattle.vortex_model.specs.Content.{Content, content_of}
use Rattle.vortex_model.specs.Path.{Step}
use Rattle.vortex_model_table.specs.Expression.{Expression, HasFormedLiterals}
use Rattle.vortex_model_table.specs.Truth.{selects}
use Rattle.vortex_model_table.specs.Cut.{cut_row}
use Rattle.vortex_model.specs.Refusal.{Refusal, total_passed}
use Rattle.vortex_model.proofs.Refusals.{second_none}
use Rattle.vortex_model_table.specs.Table.{Table, IsTable, rows_of}
use Rattle.vortex_model_table.specs.Scan.{ScanAnswer, scanned}
use Rattle.vortex_model_table.specs.Command.{Command, appended, created, create, append, append_array, join, retype, compact, scan, describe, paths_fault, predicate_fault, create_fault, refusal, after, refusal_in, after_in, names_of}
use Rattle.vortex_model_table.specs.Reply.{Answer, accepted, out_of_memory, refused, found, described, lines, Replies, RespondsTo, SaysIn}
use Rattle.vortex_model_table.specs.Pruning.{IsAsked}
use Rattle.vortex_model_table.specs.Laws.{IsFormed, StepsKeepTables}
use Rattle.vortex_model_laws.specs.Exact.{ExactlyTheHopelessAreSkipped}
use Rattle.vortex_model_laws.specs.Runs.{rows_by}
use Rattle.vortex_table_core.specs.Totals.{PassesTotal}
use Rattle.vortex_table_io.specs.Replies.{memory_text, AnswersAll, AnswersPart, AnswersWhole}
use Rattle.vortex_table_request.specs.Line.{command_of}
use Rattle.vortex_table_run.specs.LineAnswers.{LacksMemory, AnswersTo, LineAnswers}
use Rattle.vortex_table_run.specs.Exact.{State, start, IsExact, IsExactScan, handed_after, RespondsExactly, AnswersExactly, ExactAnswers}
use Rattle.vortex_table_run.proofs.WellFormed.{IsWellFormed, ReadsWell, reads_well}

-- what follows from a fact of an answer that is there, and of a failure
pub on_ok : {A E P Q : Type 0} (r : Result A E) → (P → Q) → OnOk r P → OnOk r Q
on_ok (Ok a) f p = f p
on_ok (Err e) f p = tt

pub on_err : {A E P Q : Type 0} (r : Result A E) → (P → Q) → OnErr r P → OnErr r Q
on_err (Ok a) f p = tt
on_err (Err e) f p = f p

pub if_err : {A E : Type 0} {P Q : E → Type 0} (r : Result A E) → ((e : E) → P e → Q e) → IfErr r P → IfErr r Q
if_err (Ok a) f p = tt
if_err (Err e) f p = f e p

abbrev IsLacking : State → List ℕ → State → Type 0
IsLacking old text new = (text ≡ memory_text) × (new ≡ old)

formed : (c : Command) → IsWellFormed c → IsFormed c
formed (create k default entries) h = tt
formed (append s values) h = tt
formed (append_array s rows) h = absurd h
formed (join i) h = tt
formed (retype k) h = tt
formed compact h = tt
formed (scan paths e) h = tt
formed (describe path i) h = tt

appended_rows : (t : Table) (rows : List Content) → rows_of (appended t rows) ≡ rows_of t ++ rows
appended_rows t [] = sym (append-nil (rows_of t))
appended_rows t (row ∷ rows) = flat_map-append (λ chunk. chunk) t.chunks ((row ∷ rows) ∷ []) ∙ ap (λ l. rows_of t ++ l) (append-nil (row ∷ rows))

-- the state is a table of these rows, or none
abbrev Holds : Option Table → List Content → Type 0
Holds None rows = Unit {0}
Holds (Some t) rows = IsTable t × (rows_of t ≡ rows)

abbrev empty : Table
empty = record { kind = struct no_fields non_nullable; default = 0; lengths = []; chunks = []; groups = [] }

empty_is : IsTable empty
empty_is = record { holds = refl; rows = tt; not_empty = tt; positive = tt; grouped = refl }

after_accepted : (t : Table) (c : Command) (rows : List Content) → IsTable (after t c) → rows_of t ≡ rows → Holds (after_in (Some t) c) (rows_by c rows)
after_accepted t (create k default entries) rows is e = (is, refl)
after_accepted t (append s values) rows is e = (is, appended_rows t (map content_of values) ∙ ap (λ l. l ++ map content_of values) e)
after_accepted t (append_array s more) rows is e = (is, appended_rows t more ∙ ap (λ l. l ++ more) e)
after_accepted t (join i) rows is e = (is, e)
after_accepted t (retype k) rows is e = (is, e)
after_accepted t compact rows is e = (is, e)
after_accepted t (scan paths p) rows is e = (is, e)
after_accepted t (describe path i) rows is e = (is, e)

-- the answer that was found, or else this one
abbrev found_or : ScanAnswer → Answer → ScanAnswer
found_or b (found a) = a
found_or b a = b

abbrev table_or : Table → Option Table → Table
table_or u None = u
table_or u (Some t) = t

module _ (keep : StepsKeepTables) (hopeless : ExactlyTheHopelessAreSkipped) where
  kept : (s : Option Table) (handed : List Content) (c : Command) → IsWellFormed c → refusal_in s c ≡ None → Holds s handed → Holds (after_in s c) (rows_by c handed)
  kept (Some t) handed c well e h = after_accepted t c handed (subst (λ o. IsTable (elim o [ None ↦ after t c | Some r ↦ t ])) e (keep t c (formed c well) h.0)) h.1
  kept None handed (create k default entries) well e h =
      (subst (λ o. IsTable (elim o [ None ↦ created k default entries | Some r ↦ empty ])) e (keep empty (create k default entries) tt empty_is), refl)
  kept None handed c well e h = absurd (cc e)

  exact_of : (t : Table) (handed : List Content) (paths : List (List Step)) (p : Expression) (a : ScanAnswer) → IsTable t → rows_of t ≡ handed → refusal t (scan paths p) ≡ None → HasFormedLiterals p →
      found a ≡ found (scanned t (map names_of paths) p) → IsExact t handed (map names_of paths) p a
  exact_of t handed paths p a is rows none well says =
      let asked : IsAsked t p = record { faultless = second_none (paths_fault 0 t.kind paths) (predicate_fault t.kind p) none; formed = well } in
      subst (λ b. IsExact t handed (map names_of paths) p b) (sym (ap (found_or a) says)) record {
        rows = ap (λ l. map (cut_row (map names_of paths) t.kind) (filter (selects t.kind p) l)) rows;
        kind = refl;
        skips = λ before chunk behind wide place bounded. hopeless t p before chunk behind is asked wide place bounded;
      }

  exact_in : (s : Option Table) (handed : List Content) (paths : List (List Step)) (p : Expression) (a : ScanAnswer) → Holds s handed → refusal_in s (scan paths p) ≡ None → HasFormedLiterals p →
      SaysIn s (scan paths p) (found a) → (t : Table) → s ≡ Some t → IsExact t handed (map names_of paths) p a
  exact_in None handed paths p a h none well says t there = absurd (cc there)
  exact_in (Some u) handed paths p a h none well says t there =
      subst (λ v. IsExact v handed (map names_of paths) p a) (ap (table_or u) there) (exact_of u handed paths p a h.0 h.1 none well says)

  exact_scan : (old : State) (a : ScanAnswer) (c : Command) → Holds old.table old.handed → refusal_in old.table c ≡ None → IsWellFormed c → SaysIn old.table c (found a) → IsExactScan old (found a) c
  exact_scan old a (scan paths p) h none well says = exact_in old.table old.handed paths p a h none well says
  exact_scan old a c h none well says = tt

  module _ where
    stepped : (old : State) (c : Command) (a : Answer) (new : Option Table) → IsWellFormed c → Holds old.table old.handed → RespondsTo PassesTotal old.table c a new →
        Holds new (handed_after old.handed a c) × IsExactScan old a c
    stepped old c out_of_memory new well h r = (subst (λ s. Holds s old.handed) (sym r) h, tt)
    stepped old c accepted new well h r = (subst (λ s. Holds s (rows_by c old.handed)) (sym r.2) (kept old.table old.handed c well r.0 h), tt)
    stepped old c (described z) new well h r = (subst (λ s. Holds s (rows_by c old.handed)) (sym r.2) (kept old.table old.handed c well r.0 h), tt)
    stepped old c (found a) new well h r = (subst (λ s. Holds s (rows_by c old.handed)) (sym r.2) (kept old.table old.handed c well r.0 h), exact_scan old a c h r.0 well r.1)
    stepped old c (refused total_passed) new well h r = (subst (λ s. Holds s old.handed) (sym r.2) h, tt)
    stepped old c (refused q) new well h r = (subst (λ s. Holds s old.handed) (sym r.1) h, tt)

    -- the state after a line
    abbrev Behind : State → List ℕ → Option Command → List ℕ → Option Table → Type 0
    Behind old line o text mid =
        (s : State) × (s.table ≡ mid) × Holds s.table s.handed × (IsLacking old text s ⊎ AnswersExactly o old text s)

    behind : (old : State) (line text : List ℕ) (mid : Option Table) (o : Option Command) → ((c : Command) → o ≡ Some c → IsWellFormed c) → Holds old.table old.handed →
        LacksMemory old.table text mid ⊎ AnswersTo o old.table text mid → Behind old line o text mid
    behind old line text mid o well h (inl lacks) = (old, sym lacks.1, h, inl (lacks.0, refl))
    behind old line text mid None well h (inr answers) = (old, sym answers.1, h, inr (answers.0, refl))
    behind old line text mid (Some c) well h (inr answers) =
        let next = stepped old c answers.0 mid (well c refl) h answers.1 in (
          record { table = mid; handed = handed_after old.handed answers.0 c },
          refl,
          next.0,
          inr (answers.0, record { responds = answers.1; handed = refl; scan = next.1 }, answers.2),
        )

    replied : ReadsWell → (lines texts : List (List ℕ)) (old : State) (new : Option Table) → Holds old.table old.handed → Replies (LineAnswers) old.table lines texts new →
        (last : State) × (last.table ≡ new) × Replies (ExactAnswers) old lines texts last
    replied well [] [] old new h r = (old, sym r, refl)
    replied well [] (text ∷ texts) old new h r = absurd r
    replied well (line ∷ lines) [] old new h r = absurd r
    replied well (line ∷ lines) (text ∷ texts) old new h r =
        let next = behind old line text r.0 (command_of line) (well line) h r.1 in
        let rest = replied well lines texts next.0 new next.2 (subst (λ s. Replies (LineAnswers) s lines texts new) (sym next.1) r.2) in
        (rest.0, rest.1, (next.0, next.3, rest.2))

    pub replies_exact : ReadsWell → (lines texts : List (List ℕ)) (new : Option Table) → Replies LineAnswers None lines texts new →
        (last : State) × (last.table ≡ new) × Replies ExactAnswers start lines texts last
    replies_exact well lines texts new r = replied well lines texts start new tt r

  pub all_exact : (old : Option Table) → old ≡ None → (read_old read_new written_old written_new : List ℕ) (new : Option Table) → AnswersAll LineAnswers old read_old read_new written_old written_new new →
      (last : State) × AnswersAll ExactAnswers start read_old read_new written_old written_new last
  all_exact old e read_old read_new written_old written_new new answers =
      let a = subst (λ old. AnswersAll LineAnswers old read_old read_new written_old written_new new) e answers in
      let r = replies_exact reads_well (lines a.input) a.texts new a.replies in
      (r.0, record { input = a.input; read = a.read; texts = a.texts; replies = r.2; written = a.written })

  pub part_exact : (old : Option Table) → old ≡ None → (read_old read_new written_old written_new : List ℕ) → AnswersPart LineAnswers old read_old read_new written_old written_new →
      AnswersPart ExactAnswers start read_old read_new written_old written_new
  part_exact old e read_old read_new written_old written_new answers =
      let a = subst (λ old. AnswersPart LineAnswers old read_old read_new written_old written_new) e answers in
      let r = replies_exact reads_well (lines a.input) a.texts a.final a.replies in
      record { input = a.input; read = a.read; texts = a.texts; final = r.0; replies = r.2; rest = a.rest; begins = a.begins }

  pub whole_exact : (old : Option Table) → old ≡ None → (read_old read_new written_old written_new : List ℕ) → AnswersWhole LineAnswers old read_old read_new written_old written_new →
      AnswersWhole ExactAnswers start read_old read_new written_old written_new
  whole_exact old e read_old read_new written_old written_new answers =
      let a = subst (λ old. AnswersWhole LineAnswers old read_old read_new written_old written_new) e answers in
      let r = replies_exact reads_well a.done a.texts a.final a.replies in
      record { done = a.done; held = a.held; lines = a.lines; read = a.read; texts = a.texts; final = r.0; replies = r.2; written = a.written }
