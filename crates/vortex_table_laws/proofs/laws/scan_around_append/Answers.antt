use Rattle.std.proofs.Common.{◌∙◌, ap, sym, map, filter, ◌++◌}
use Rattle.vortex_model.specs.Content.{content_of}
use Rattle.vortex_model_table.specs.Command.{names_of}
use Rattle.vortex_model_table.specs.Cut.{cut_row}
use Rattle.vortex_model_table.specs.Table.{answer}
use Rattle.vortex_model_table.specs.Truth.{selects}
use Rattle.vortex_dtype_path.specs.View.{steps_of}
use Rattle.vortex_scalar_value.specs.View.{raw_in}
use Rattle.vortex_table_core.specs.TableView.{table_of}
use Rattle.vortex_table_laws.proofs.Answered.{on_both, where_accepted}
use Rattle.vortex_table_laws.proofs.laws.scan_around_append.Goals as goal

pub returns-clause-law : goal.returns-clause-law
returns-clause-law c =
    let t = table_of c.args.table.now in let paths = map names_of (map steps_of c.args.paths.now) in
    let e = c.args.predicate.now in let rows = map content_of (map raw_in c.args.values.now) in
    let more = map (cut_row paths t.kind) (filter (selects t.kind e) rows) in
    where_accepted c.append-appended.result (λ appended.
    on_both c.scan-before.result c.scan-after.result (λ a b h k.
    ap (λ x. x.rows) k ∙ (ap (λ u. answer u paths e) appended
    ∙ (c.appends_answer_behind.ensures t rows paths e
    ∙ sym (ap (λ x. x.rows ++ more) h)))) c.scan-before.ensures.found c.scan-after.ensures.found)
    c.append-appended.ensures.appends.appended
