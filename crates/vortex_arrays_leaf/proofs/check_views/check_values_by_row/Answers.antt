use Rattle.std.proofs.Common.{arith}
use Rattle.vortex_arrays_leaf.proofs.Checked.{values}
use Rattle.vortex_arrays_leaf.proofs.check_views.check_values_by_row.Goals as goal

pub loop-i-preserved : goal.loop-i-preserved
loop-i-preserved c = grind (arith, values)
