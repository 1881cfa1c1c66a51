use Rattle.std.proofs.Common.{length}
use Rattle.vortex_table_schema.proofs.cut.+strip_step.Given as goal

abbrev pub decreases-strip_step : goal.decreases-strip_step
decreases-strip_step l = length l.path.now
