use Rattle.std.proofs.Common.{length}
use Rattle.vortex_table_schema.proofs.cut.+first_step.Given as goal

abbrev pub decreases-first_step : goal.decreases-first_step
decreases-first_step l = length l.path.now
