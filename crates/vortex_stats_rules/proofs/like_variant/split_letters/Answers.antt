use Rattle.std.proofs.Common.{chars, string_bytes}
use Rattle.std.proofs.lemmas.Str.{IsUtf8-string_bytes}
use Rattle.vortex_stats_rules.proofs.Signs.{at_first, one_more, none_of_empty}
use Rattle.vortex_stats_rules.proofs.like_variant.split_letters.Goals as goal

pub loop-letter-init : goal.loop-letter-init
loop-letter-init c =
    (c.utf8.pattern, at_first (chars c.args.pattern.now) _ (none_of_empty _ c.in_ok-letters.ensures.bytes))

pub loop-letter-preserved : goal.loop-letter-preserved
loop-letter-preserved c = (
  c.in-Some.ensures.utf8,
  one_more (chars c.args.pattern.now) (chars c.loop-letter.rest.now) (chars c.in-Some.behind.now) (string_bytes c.loop-letter.letters) (string_bytes c.push.new.self) c.in-Some.letter
      (IsUtf8-string_bytes c.loop-letter.letters) (IsUtf8-string_bytes c.push.new.self) c.in_ok-push.ensures.bytes c.loop-letter.invariant.1 c.in-Some.ensures.signs,
)
