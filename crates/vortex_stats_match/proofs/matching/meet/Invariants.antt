use Rattle.std.proofs.Common.{length}
use Rattle.vortex_stats_match.proofs.PieceLemmas.{IsWalked}
use Rattle.vortex_stats_match.proofs.matching.meet.Given as goal

abbrev pub invariant-loop-sign : goal.invariant-loop-sign
invariant-loop-sign l = IsWalked l.pattern l.text l.signs l.left

abbrev pub decreases-loop-sign : goal.decreases-loop-sign
decreases-loop-sign l = length l.signs
