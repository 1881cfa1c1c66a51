use Rattle.vortex_stats_bound.proofs.Unions.{lower_commute}
use Rattle.vortex_stats_bound.proofs.laws.lower_unions_commute.Goals as goal

pub returns : goal.returns
returns g c = lower_commute g.met.T.BoundOrd.lawful
