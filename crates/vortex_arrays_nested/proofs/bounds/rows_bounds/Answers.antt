use Rattle.std.proofs.Common.{arith}
use Rattle.vortex_arrays_nested.proofs.BoundsLemmas.{bounds}
use Rattle.vortex_arrays_nested.proofs.bounds.rows_bounds.Goals as goal

pub loop-i-preserved : goal.loop-i-preserved
loop-i-preserved c = grind (arith, bounds, c.well_formed, c.ranges)
