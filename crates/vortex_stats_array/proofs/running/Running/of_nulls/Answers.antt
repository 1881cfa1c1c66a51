use Rattle.std.proofs.Common.{refl}
use Rattle.vortex_stats_array.proofs.Repeated.{nulls_alone}
use Rattle.vortex_stats_array.proofs.running.Running.of_nulls.Goals as goal

pub returns-clause-seen : goal.returns-clause-seen
returns-clause-seen g c = nulls_alone g.V.LeafValue.said _ c.args.n refl refl refl c.none.ensures.sum
