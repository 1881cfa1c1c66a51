use Rattle.vortex_model_table.specs.Command.{positions_of}
use Rattle.vortex_model_table.specs.Scan.{kind_at}
use Rattle.vortex_dtype_path.specs.View.{steps_of}
use Rattle.vortex_scalar_value.specs.View.{content_in}
use Rattle.vortex_table_core.specs.TableView.{table_of}
use Rattle.vortex_table_zones.proofs.ZoneLemmas.{is_told}
use Rattle.vortex_table_zones.proofs.zone.column_value.Goals as goal

pub returns-in-Ok-clause-told : goal.returns-in-Ok-clause-told
returns-in-Ok-clause-told c =
    is_told (table_of c.args.table.now) c.args.group c.args.statistic (steps_of c.args.path.now) (content_in c.statistic_of.result) c.in-Ok.description
    c.in-Ok.ensures.described c.statistic_of.ensures.content

pub returns-in-Ok-clause-valid : goal.returns-in-Ok-clause-valid
returns-in-Ok-clause-valid c =
    c.statistic_of.ensures.valid (kind_at (table_of c.args.table.now).kind (positions_of (table_of c.args.table.now).kind (steps_of c.args.path.now))) c.in-Ok.ensures.types
