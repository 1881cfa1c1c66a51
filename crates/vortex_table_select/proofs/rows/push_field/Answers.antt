use Rattle.std.proofs.Common.{ap, ◌∙◌}
use Rattle.std.proofs.lemmas.Result.{on_ok_weaker}
use Rattle.vortex_table_select.specs.Lists.{with_each, lists_of}
use Rattle.vortex_table_select.proofs.CutRows.{field_there, field_past}
use Rattle.vortex_table_select.proofs.rows.push_field.Goals as goal

pub returns-in-Some : goal.returns-in-Some
returns-in-Some c =
    let found = c.in-Some.ensures.lookup in
    on_ok_weaker c.push_column.result (λ e. e ∙ ap (with_each (lists_of c.args.lists.now)) (field_there c.args.columns.now c.args.field.now c.args.rows.now c.in-Some.column.now found.3.0 found.1)) c.push_column.ensures

pub returns-in-None : goal.returns-in-None
returns-in-None c =
    on_ok_weaker c.push_absent.result (λ e. e ∙ ap (with_each (lists_of c.args.lists.now)) (field_past c.args.columns.now c.args.field.now c.args.rows.now c.in-None.ensures.lookup.3)) c.push_absent.ensures
