use Rattle.vortex_stats_bound.proofs.Unions.{upper_associate}
use Rattle.vortex_stats_bound.proofs.laws.upper_unions_associate.Goals as goal

pub returns : goal.returns
returns g c = upper_associate g.met.T.BoundOrd.lawful
