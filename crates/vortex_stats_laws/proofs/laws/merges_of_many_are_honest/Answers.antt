use Rattle.vortex_stats_laws.proofs.Walk.{many_honest}
use Rattle.vortex_stats_laws.proofs.laws.merges_of_many_are_honest.Goals as goal

pub returns : goal.returns
returns c = many_honest
