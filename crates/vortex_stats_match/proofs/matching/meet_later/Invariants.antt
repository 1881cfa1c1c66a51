use Rattle.std.proofs.Common.{length}
use Rattle.vortex_stats_match.specs.Pieces.{IsPlace}
use Rattle.vortex_stats_match.proofs.matching.meet_later.Given as goal

abbrev pub invariant-loop-place : goal.invariant-loop-place
invariant-loop-place l = IsPlace l.pattern l.text l.ends

abbrev pub decreases-loop-place : goal.decreases-loop-place
decreases-loop-place l = length l.ends
