use Rattle.std.proofs.Common.{◌≡◌, ◌++◌, map, chars, option_map, string_bytes, length}
use denote.Text.{Utf8}
use denote.Shadow.{shadow}
use Rattle.vortex_model_table.specs.Rewrite.{letter, signs_of}
use Rattle.vortex_stats_rules.proofs.like_variant.split_letters.Given as goal

abbrev pub invariant-loop-letter : goal.invariant-loop-letter
invariant-loop-letter l = shadow (Utf8 l.rest)
    × (signs_of (chars l.pattern) ≡ option_map (λ signs. map letter (chars (string_bytes l.letters)) ++ signs) (signs_of (chars l.rest)))

abbrev pub decreases-loop-letter : goal.decreases-loop-letter
decreases-loop-letter l = length (chars l.rest)
