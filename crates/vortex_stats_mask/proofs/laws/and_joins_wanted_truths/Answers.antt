use Rattle.vortex_stats_mask.proofs.Truths.{wanted_of_and}
use Rattle.vortex_stats_mask.proofs.laws.and_joins_wanted_truths.Goals as goal

pub returns : goal.returns
returns c = wanted_of_and
