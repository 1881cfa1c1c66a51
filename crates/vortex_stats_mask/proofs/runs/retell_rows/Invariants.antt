use Rattle.vortex_stats_mask.proofs.RunLemmas.{Retold}
use Rattle.vortex_stats_mask.proofs.runs.retell_rows.Given as goal

abbrev pub invariant-loop-i : goal.invariant-loop-i
invariant-loop-i g l = Retold (λ i was is. goal.F-post g l.f i was is) l.fn.mask.items l.mask.items l.i
