use Rattle.std.proofs.Common.{◌∙◌, sym, chars}
use Rattle.vortex_stats_rules.specs.Patterns.{sign_in}
use Rattle.vortex_stats_rules.proofs.Signs.{some_step, spelled_end}
use Rattle.vortex_stats_rules.proofs.like_variant.is_spelled.Goals as goal

pub loop-behind-preserved : goal.loop-behind-preserved
loop-behind-preserved c =
    (c.in-Some.ensures.utf8, c.loop-behind.invariant.1 ∙ some_step (sign_in c.in-Some.field-0-0) (chars c.loop-behind.rest.now) (chars c.in-Some.behind.now) c.in-Some.ensures.signs)

pub returns : goal.returns
returns c = c.is_empty.ensures ∙ spelled_end c.loop-behind.rest.now c.loop-behind.invariant.0 c.in_default.ensures.signs ∙ sym c.loop-behind.invariant.1
