use Rattle.memchr.specs.Find.{Nowhere, Passes, is_byte}
use Rattle.vortex_stats_match.proofs.matching.find_near.Given as goal

abbrev pub invariant-loop-i : goal.invariant-loop-i
invariant-loop-i l = Nowhere (Passes (is_byte l.sign) l.text) 0 l.i
