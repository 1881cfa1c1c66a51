use Rattle.vortex_stats_mask.proofs.Truths.{wanted_of_not}
use Rattle.vortex_stats_mask.proofs.laws.not_turns_wanted_truths.Goals as goal

pub returns : goal.returns
returns c = wanted_of_not
