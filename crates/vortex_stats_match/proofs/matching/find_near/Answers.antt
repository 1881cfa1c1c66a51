use Rattle.std.proofs.Common.{eqb-true}
use Rattle.memchr.proofs.lemmas.FindLemmas.{Nowhere-more}
use Rattle.vortex_stats_match.proofs.matching.find_near.Goals as goal

pub loop-i-preserved : goal.loop-i-preserved
loop-i-preserved c = Nowhere-more c.loop-i.invariant (λ e. c.if-text-i.false (eqb-true _ _ e))
