use Rattle.vortex_stats_mask.proofs.Truths.{wanted_false}
use Rattle.vortex_stats_mask.proofs.laws.false_comparisons_are_negated.Goals as goal

pub returns : goal.returns
returns c = wanted_false
