use Rattle.std.proofs.Common.{◌∙◌, sym}
use Rattle.vortex_stats_match.proofs.SignLemmas.{past_here, past_more, past_none}
use Rattle.vortex_stats_match.proofs.matching.past_char.Goals as goal

pub returns-else-goes_on : goal.returns-else-goes_on
returns-else-goes_on c =
    sym (c.loop-byte.invariant ∙ past_here _ _ _ c.in-Some.ensures.cases.0 (sym c.goes_on.ensures ∙ c.if-goes_on.false))

pub loop-byte-preserved : goal.loop-byte-preserved
loop-byte-preserved c =
    c.loop-byte.invariant ∙ past_more _ _ _ c.in-Some.ensures.cases.0 (sym c.goes_on.ensures ∙ c.if-goes_on.true)

pub returns : goal.returns
returns c = sym (c.loop-byte.invariant ∙ past_none _ c.in_default.ensures.cases)
