-- The rows of a scan depend on the table's rows alone, and not on its chunks.
use Rattle.std.proofs.Common.{◌≡◌, sym, ◌∙◌, ap, List, [], ◌∷◌, ◌++◌, map, filter, append-nil}
use Rattle.std.proofs.lemmas.List.{map-append}
use Rattle.vortex_model.specs.Content.{Content}
use Rattle.vortex_model.specs.Path.{Names}
use Rattle.vortex_model_table.specs.Expression.{Expression}
use Rattle.vortex_model_table.specs.Truth.{selects}
use Rattle.vortex_model_table.specs.Cut.{cut_row}
use Rattle.vortex_model_table.specs.Table.{Table, rows_of, answer}
use Rattle.vortex_model_table.specs.Command.{appended}
use Rattle.vortex_model_laws.proofs.Outcomes.{selected_more}

pub eq_answers : (t u : Table) (paths : List Names) (e : Expression) → t.kind ≡ u.kind → rows_of t ≡ rows_of u → answer t paths e ≡ answer u paths e
eq_answers t u paths e k r = λ i. map (cut_row paths (k i)) (filter (selects (k i) e) (r i))

pub appended_answers : (t : Table) (rows : List Content) (paths : List Names) (e : Expression) →
    answer (appended t rows) paths e ≡ answer t paths e ++ map (cut_row paths t.kind) (filter (selects t.kind e) rows)
appended_answers t [] paths e = sym (append-nil (answer t paths e))
appended_answers t (row ∷ rows) paths e =
    ap (map (cut_row paths t.kind)) (selected_more (selects t.kind e) t.chunks (row ∷ rows))
    ∙ map-append (cut_row paths t.kind) (filter (selects t.kind e) (rows_of t)) (filter (selects t.kind e) (row ∷ rows))
