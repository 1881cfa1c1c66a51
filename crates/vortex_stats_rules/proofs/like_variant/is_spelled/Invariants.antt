use Rattle.std.proofs.Common.{◌≡◌, chars, is_some, length}
use denote.Text.{Utf8}
use denote.Shadow.{shadow}
use Rattle.vortex_model_table.specs.Rewrite.{signs_of}
use Rattle.vortex_stats_rules.proofs.like_variant.is_spelled.Given as goal

abbrev pub invariant-loop-behind : goal.invariant-loop-behind
invariant-loop-behind l = shadow (Utf8 l.rest) × (is_some (signs_of (chars l.pattern)) ≡ is_some (signs_of (chars l.rest)))

abbrev pub decreases-loop-behind : goal.decreases-loop-behind
decreases-loop-behind l = length (chars l.rest)
