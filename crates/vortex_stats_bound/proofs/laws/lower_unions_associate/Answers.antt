use Rattle.vortex_stats_bound.proofs.Unions.{lower_associate}
use Rattle.vortex_stats_bound.proofs.laws.lower_unions_associate.Goals as goal

pub returns : goal.returns
returns g c = lower_associate g.met.T.BoundOrd.lawful
