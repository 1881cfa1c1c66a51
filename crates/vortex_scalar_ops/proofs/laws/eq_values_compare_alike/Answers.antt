use Rattle.vortex_scalar_ops.proofs.Ordered.{alike}
use Rattle.vortex_scalar_ops.proofs.laws.eq_values_compare_alike.Goals as goal

pub returns : goal.returns
returns c = alike
