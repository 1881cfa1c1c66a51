use Rattle.std.proofs.Common.{length, ap, arith}
use Rattle.vortex_stats_match.proofs.FindLemmas.{short_text, last_place, whole_prefix}
use Rattle.vortex_stats_match.proofs.matching.search_from.Goals as goal

pub returns-then-text-pattern : goal.returns-then-text-pattern
returns-then-text-pattern c =
    short_text c.args.pattern.now c.args.text.now
    (whole_prefix c.args.pattern.now c.args.finder.now c.requires (omega (arith, c.if-needle-pattern.false, ap length c.needle.ensures)))
    c.if-text-pattern.true

pub returns : goal.returns
returns c =
    last_place c.args.pattern.now c.args.text.now
    (whole_prefix c.args.pattern.now c.args.finder.now c.requires (omega (arith, c.if-needle-pattern.false, ap length c.needle.ensures)))
    c.if-text-pattern.false
