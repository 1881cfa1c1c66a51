use Rattle.vortex_stats_bound.specs.ScalarOrder.{is_plain, scalar_order_lawful}
use Rattle.vortex_stats_bound.proofs.Unions.{lower_associate}
use Rattle.vortex_stats_bound.proofs.Scalars.{plain_grouped}
use Rattle.vortex_stats_bound.proofs.laws.scalar_lower_unions_associate.Goals as goal

pub returns : goal.returns
returns c = lower_associate scalar_order_lawful is_plain plain_grouped
