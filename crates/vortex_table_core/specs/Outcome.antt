-- What becomes of a chunk in a scan.
use Rattle.vortex_model_table.specs.Scan as model
use Rattle.vortex_model_table.specs.Scan.{skipped, whole, tested}
use Rattle.vortex_table_core.specs.declared.plan.Pruning.{Pruning}
use Rattle.vortex_table_core.specs.declared.plan.Pruning.TheVariants as outcome

abbrev pub outcome_of : Pruning → model.Outcome
outcome_of outcome.Skip = skipped
outcome_of outcome.TakeAll = whole
outcome_of outcome.Filter = tested
