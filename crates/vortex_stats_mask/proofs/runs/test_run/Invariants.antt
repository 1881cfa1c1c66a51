use Rattle.std.proofs.Common.{◌+◌, length}
use Rattle.vortex_stats_mask.specs.Runs.{Says}
use Rattle.vortex_stats_mask.proofs.runs.test_run.Given as goal

abbrev pub invariant-loop-j : goal.invariant-loop-j
invariant-loop-j g l = Says (λ i b. goal.F-post g l.f i b) l.mask.items (l.first + l.j) (length l.fn.mask.items)
