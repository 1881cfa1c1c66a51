use Rattle.std.proofs.Common.{◌*◌}
use Rattle.vortex_stats_mask.specs.Runs.{Says}
use Rattle.vortex_stats_mask.proofs.runs.test_rows.Given as goal

abbrev pub invariant-loop-k : goal.invariant-loop-k
invariant-loop-k g l = Says (λ i b. goal.F-post g l.f i b) l.mask.items (16 * l.k) l.len
