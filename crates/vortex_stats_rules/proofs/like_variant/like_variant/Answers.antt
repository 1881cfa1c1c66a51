use Rattle.std.proofs.Common.{sym, chars, string_bytes}
use Rattle.vortex_stats_rules.proofs.Signs.{is_exact, is_begun, is_shapeless, empty_so, not_empty}
use Rattle.vortex_stats_rules.proofs.like_variant.like_variant.Goals as goal

pub returns-then-is_empty : goal.returns-then-is_empty
returns-then-is_empty c =
    is_exact (chars c.args.pattern.now) (chars (string_bytes c.in_ok-letters.letters)) (chars c.in_ok-letters.rest.now) c.in_ok-letters.ensures.signs
    (empty_so c.in_ok-letters.rest.now (sym c.if-is_empty.ensures))

pub returns-then-is_spelled : goal.returns-then-is_spelled
returns-then-is_spelled c =
    is_begun (chars c.args.pattern.now) (chars (string_bytes c.in_ok-letters.letters)) (chars c.in_ok-letters.rest.now) c.in_ok-letters.ensures.signs
    c.in_ok-letters.ensures.stop c.if-is_spelled.ensures (not_empty c.in_ok-letters.rest.now c.in_ok-letters.ensures.utf8 (sym c.if-is_empty.ensures))

pub returns-else-is_spelled : goal.returns-else-is_spelled
returns-else-is_spelled c =
    is_shapeless (chars c.args.pattern.now) (chars (string_bytes c.in_ok-letters.letters)) (chars c.in_ok-letters.rest.now) c.in_ok-letters.ensures.signs
    c.if-is_spelled.ensures
