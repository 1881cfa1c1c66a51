use Rattle.std.proofs.Common.{◌≡◌, length}
use Rattle.vortex_stats_match.specs.Bytes.{past_char}
use Rattle.vortex_stats_match.proofs.matching.past_char.Given as goal

abbrev pub invariant-loop-byte : goal.invariant-loop-byte
invariant-loop-byte l = past_char l.text ≡ past_char l.left

abbrev pub decreases-loop-byte : goal.decreases-loop-byte
decreases-loop-byte l = length l.left
