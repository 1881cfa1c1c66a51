use Rattle.std.proofs.Common.{arith}
use Rattle.vortex_stats_mask.proofs.runs.test_rows.Goals as goal

pub returns-clause-rows : goal.returns-clause-rows
returns-clause-rows g c = λ i l. c.test_run-2.ensures.rows i (omega arith)
