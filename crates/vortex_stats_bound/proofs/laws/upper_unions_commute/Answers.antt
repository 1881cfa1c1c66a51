use Rattle.vortex_stats_bound.proofs.Unions.{upper_commute}
use Rattle.vortex_stats_bound.proofs.laws.upper_unions_commute.Goals as goal

pub returns : goal.returns
returns g c = upper_commute g.met.T.BoundOrd.lawful
