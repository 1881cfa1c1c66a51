use Rattle.vortex_stats_bound.specs.ScalarOrder.{scalar_order_lawful}
use Rattle.vortex_stats_bound.proofs.Unions.{alike_by, upper_commute}
use Rattle.vortex_stats_bound.proofs.Scalars.{agreeing}
use Rattle.vortex_stats_bound.proofs.laws.scalar_upper_unions_commute.Goals as goal

pub returns : goal.returns
returns c = λ p q. alike_by agreeing _ _ (upper_commute scalar_order_lawful p q)
