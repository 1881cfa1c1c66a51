use Rattle.std.specs.Prelude.{option_map}
use Rattle.vortex_stats_bind.specs.Bound.{expression_of}
use Rattle.vortex_table_schema.specs.Cut.{paths_of}
use Rattle.vortex_table_select.specs.Selected.{answer_cut}
use Rattle.vortex_table_core.specs.TableView.{table_of}
use Rattle.vortex_table_core.proofs.ByProofs.{found_built_in}
use Rattle.vortex_table_core.proofs.Tables.{is_table}
use Rattle.vortex_table_core.proofs.table.Table.select.Goals as goal

pub returns-clause-found : goal.returns-clause-found
returns-clause-found c =
    let t = c.args.self.now in let made = c.in_ok-prepared.ensures in let plan = c.in_ok-prepared.prepared in
    let found = c.in_ok-selection.selection in
    found_built_in (table_of t) (paths_of c.args.paths.now) c.args.predicate.now (option_map expression_of plan.falsifier) (option_map expression_of plan.satisfier) (answer_cut plan.cut found)
    (record { faultless = made.faultless; formed = made.formed }) (is_table t) made.falsifier made.satisfier c.in_ok-selection.ensures.found
