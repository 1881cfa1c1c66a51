use Rattle.std.proofs.Common.{◌≡◌, length}
use Rattle.vortex_model_table.specs.Like.{some_end}
use Rattle.vortex_stats_match.specs.Bytes.{byte_matches}
use Rattle.vortex_stats_match.proofs.matching.has_end_like.Given as goal

abbrev pub invariant-loop-finder : goal.invariant-loop-finder
invariant-loop-finder l = some_end (byte_matches l.pattern) l.text ≡ some_end (byte_matches l.fn.pattern) l.fn.text

abbrev pub decreases-loop-finder : goal.decreases-loop-finder
decreases-loop-finder l = length l.pattern
