use Rattle.vortex_stats_laws.proofs.Walk.{unordered_honest}
use Rattle.vortex_stats_laws.proofs.laws.unordered_merges_are_honest.Goals as goal

pub returns : goal.returns
returns c = unordered_honest
