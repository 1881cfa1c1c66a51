use Rattle.vortex_stats_laws.proofs.Shared.{combined_honest}
use Rattle.vortex_stats_laws.proofs.laws.combined_sets_are_honest.Goals as goal

pub returns : goal.returns
returns c = combined_honest
