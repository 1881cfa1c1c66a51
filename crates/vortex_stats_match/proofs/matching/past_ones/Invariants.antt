use Rattle.std.proofs.Common.{length}
use Rattle.vortex_stats_match.proofs.FindLemmas.{AreTaken}
use Rattle.vortex_stats_match.proofs.matching.past_ones.Given as goal

abbrev pub invariant-loop-sign : goal.invariant-loop-sign
invariant-loop-sign l = AreTaken l.pattern l.text l.signs l.left

abbrev pub decreases-loop-sign : goal.decreases-loop-sign
decreases-loop-sign l = length l.signs
