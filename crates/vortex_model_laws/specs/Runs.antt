-- Statements of the laws of the table after any commands.
use Rattle.std.specs.Prelude.{◌≡◌, ◌↔◌, List, [], ◌∷◌, ◌++◌, length, map, filter, Contains, Option, Some, None, true}
use Rattle.std.specs.List.{AllByRecursion}
use Rattle.vortex_model.specs.Content.{Content, content_of}
use Rattle.vortex_model.specs.Path.{Names}
use Rattle.vortex_model_table.specs.Expression.{Expression}
use Rattle.vortex_model_table.specs.Truth.{selects}
use Rattle.vortex_model_table.specs.Cut.{cut_row}
use Rattle.vortex_model_table.specs.Table.{Table, IsTable, rows_of, answer}
use Rattle.vortex_model_table.specs.Scan.{skipped_chunks}
use Rattle.vortex_model_table.specs.Pruning.{IsAsked}
use Rattle.vortex_model_table.specs.Class.{Hopeless, is_wide, is_bounded}
use Rattle.vortex_model_table.specs.Command.{Command, create, append, append_array, refusal_in, step_in, steps}
use Rattle.vortex_model_table.specs.Laws.{IsFormed}
use Rattle.vortex_model_laws.specs.Exact.{box_of_chunk}

-- the rows after an accepted command
abbrev pub rows_by : Command → List Content → List Content
rows_by (create k default entries) rows = []
rows_by (append s values) rows = rows ++ map content_of values
rows_by (append_array s more) rows = rows ++ more
rows_by c rows = rows

-- The rows of the appends that were accepted after the last accepted create, in order. A refused
-- command adds none.
abbrev pub handed_in : Option Table → List Content → List Command → List Content
handed_in s rows [] = rows
handed_in s rows (c ∷ cs) =
    handed_in (step_in s c) (elim (refusal_in s c) [ None ↦ rows_by c rows | Some r ↦ rows ]) cs

-- The table has the rows that were handed in.
pub record IsLeftBy (cs : List Command) (t : Table) : Type 0 where
  pub table : IsTable t
  pub rows : rows_of t ≡ handed_in None [] cs

-- any commands lead to such a table, refused ones included
abbrev pub RunsKeepWhatIsHandedIn : Type 0
RunsKeepWhatIsHandedIn = (cs : List Command) (t : Table) → AllByRecursion IsFormed cs →
    steps None cs ≡ Some t → IsLeftBy cs t

-- A scan answers the rows handed in that satisfy its predicate, in order, cut to its paths, and
-- skips exactly the hopeless chunks.
pub record IsScannedExactly (cs : List Command) (t : Table) : Type 0 where
  pub answers : (paths : List Names) (e : Expression) → answer t paths e
      ≡ map (cut_row paths t.kind) (filter (selects t.kind e) (handed_in None [] cs))
  pub skips : (e : Expression) (before : List (List Content)) (chunk : List Content)
      (after : List (List Content)) → IsAsked t e → is_wide e ≡ true →
      t.chunks ≡ before ++ chunk ∷ after → is_bounded (box_of_chunk t chunk) e ≡ true →
      Contains (skipped_chunks t e) (length before) ↔ Hopeless t.kind e (box_of_chunk t chunk)

-- after any commands, scans are exact
abbrev pub RunsAreScannedExactly : Type 0
RunsAreScannedExactly = (cs : List Command) (t : Table) → AllByRecursion IsFormed cs →
    steps None cs ≡ Some t → IsScannedExactly cs t
