use Rattle.vortex_stats_mask.proofs.Truths.{compared_swapped}
use Rattle.vortex_stats_mask.proofs.laws.sides_of_comparisons_swap.Goals as goal

pub returns : goal.returns
returns c = compared_swapped
