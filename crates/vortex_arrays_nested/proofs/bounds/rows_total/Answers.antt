use Rattle.std.proofs.Common.{arith}
use Rattle.vortex_arrays_nested.proofs.BoundsLemmas.{more_elements}
use Rattle.vortex_arrays_nested.proofs.bounds.rows_total.Goals as goal

pub loop-i-preserved : goal.loop-i-preserved
loop-i-preserved c = grind (arith, more_elements, c.well_formed, c.ranges)
