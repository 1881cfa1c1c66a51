use Rattle.vortex_stats_laws.proofs.Walk.{merges_honest}
use Rattle.vortex_stats_laws.proofs.laws.merges_are_honest.Goals as goal

pub returns : goal.returns
returns c = merges_honest
