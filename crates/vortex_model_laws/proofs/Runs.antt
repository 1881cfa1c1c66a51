-- After any commands, the table has the rows that were handed in.
use Rattle.std.proofs.Common.{◌≡◌, refl, sym, ◌∙◌, ap, subst, List, [], ◌∷◌, ◌++◌, map, Option, Some, None, filter}
use Rattle.std.specs.List.{AllByRecursion}
use Rattle.std.proofs.lemmas.Grind.{flat_map-append}
use Rattle.std.proofs.lemmas.List.{append-nil}
use Rattle.vortex_model.specs.LogicalType.{struct, no_fields, non_nullable}
use Rattle.vortex_model.specs.Content.{Content, content_of}
use Rattle.vortex_model_table.specs.Truth.{selects}
use Rattle.vortex_model_table.specs.Cut.{cut_row}
use Rattle.vortex_model.specs.Refusal.{Refusal}
use Rattle.vortex_model_table.specs.Table.{Table, IsTable, rows_of}
use Rattle.vortex_model_table.specs.Command.{Command, create, append, append_array, join, retype, compact, scan, describe, appended, created, create_fault, refusal, after, refusal_in, after_in, step_in, steps}
use Rattle.vortex_model_table.specs.Laws.{IsFormed, StepsKeepTables}
use Rattle.vortex_model_laws.specs.Runs.{rows_by, handed_in, IsLeftBy, IsScannedExactly}
use Rattle.vortex_model_laws.proofs.Exact.{exactly_hopeless}

appended_rows : (t : Table) (rows : List Content) → rows_of (appended t rows) ≡ rows_of t ++ rows
appended_rows t [] = sym (append-nil (rows_of t))
appended_rows t (row ∷ rows) = flat_map-append (λ chunk. chunk) t.chunks ((row ∷ rows) ∷ []) ∙ ap (λ l. rows_of t ++ l) (append-nil (row ∷ rows))

-- there is no table, or it has these rows
abbrev Holds : Option Table → List Content → Type 0
Holds None rows = Unit {0}
Holds (Some t) rows = IsTable t × (rows_of t ≡ rows)

abbrev empty : Table
empty = record { kind = struct no_fields non_nullable; default = 0; lengths = []; chunks = []; groups = [] }

empty_is : IsTable empty
empty_is = record { holds = refl; rows = tt; not_empty = tt; positive = tt; grouped = refl }

accepted : (t : Table) (c : Command) (rows : List Content) → IsTable (after t c) → rows_of t ≡ rows → Holds (after_in (Some t) c) (rows_by c rows)
accepted t (create k default entries) rows is e = (is, refl)
accepted t (append s values) rows is e = (is, appended_rows t (map content_of values) ∙ ap (λ l. l ++ map content_of values) e)
accepted t (append_array s more) rows is e = (is, appended_rows t more ∙ ap (λ l. l ++ more) e)
accepted t (join i) rows is e = (is, e)
accepted t (retype k) rows is e = (is, e)
accepted t compact rows is e = (is, e)
accepted t (scan paths p) rows is e = (is, e)
accepted t (describe path i) rows is e = (is, e)

module _ (keep : StepsKeepTables) where
  stepped : (s : Option Table) (rows : List Content) (c : Command) → IsFormed c → Holds s rows → Holds (step_in s c) (elim (refusal_in s c) [ None ↦ rows_by c rows | Some r ↦ rows ])
  stepped (Some t) rows c formed h = by_refusal (refusal t c) refl
    where
      by_refusal : (o : Option Refusal) → refusal t c ≡ o → Holds (elim o [ None ↦ after_in (Some t) c | Some r ↦ Some t ]) (elim o [ None ↦ rows_by c rows | Some r ↦ rows ])
      by_refusal None e = accepted t c rows (subst (λ o. IsTable (elim o [ None ↦ after t c | Some r ↦ t ])) e (keep t c formed h.0)) h.1
      by_refusal (Some r) e = h
  stepped None rows (create k default entries) formed h = by_fault (create_fault k entries) refl
    where
      by_fault : (o : Option Refusal) → create_fault k entries ≡ o → Holds (elim o [ None ↦ Some (created k default entries) | Some r ↦ None ]) (elim o [ None ↦ [] | Some r ↦ rows ])
      by_fault None e = (subst (λ o. IsTable (elim o [ None ↦ created k default entries | Some r ↦ empty ])) e (keep empty (create k default entries) tt empty_is), refl)
      by_fault (Some r) e = tt
  stepped None rows c formed h = tt

  run : (cs : List Command) (s : Option Table) (rows : List Content) → AllByRecursion IsFormed cs → Holds s rows → Holds (steps s cs) (handed_in s rows cs)
  run [] s rows formed h = h
  run (c ∷ cs) s rows formed h =
      run cs (step_in s c) (elim (refusal_in s c) [ None ↦ rows_by c rows | Some r ↦ rows ]) formed.1 (stepped s rows c formed.0 h)

  pub runs_keep : (cs : List Command) (t : Table) → AllByRecursion IsFormed cs → steps None cs ≡ Some t → IsLeftBy cs t
  runs_keep cs t formed e =
      let h = subst (λ s. Holds s (handed_in None [] cs)) e (run cs None [] formed tt) in record { table = h.0; rows = h.1 }

  pub runs_scanned : (cs : List Command) (t : Table) → AllByRecursion IsFormed cs → steps None cs ≡ Some t → IsScannedExactly cs t
  runs_scanned cs t formed e =
      let left = runs_keep cs t formed e in record {
        answers = λ paths p. ap (λ rows. map (cut_row paths t.kind) (filter (selects t.kind p) rows)) left.rows;
        skips = λ p before chunk after. exactly_hopeless t p before chunk after left.table;
      }
