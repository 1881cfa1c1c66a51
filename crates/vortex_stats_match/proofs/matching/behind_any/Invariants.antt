use Rattle.std.proofs.Common.{◌≡◌, length}
use Rattle.vortex_stats_match.specs.Pieces.{behind_any}
use Rattle.vortex_stats_match.proofs.matching.behind_any.Given as goal

abbrev pub invariant-loop-sign : goal.invariant-loop-sign
invariant-loop-sign l = behind_any l.pattern ≡ behind_any l.signs

abbrev pub decreases-loop-sign : goal.decreases-loop-sign
decreases-loop-sign l = length l.signs
