use Rattle.std.proofs.Common.{◌+◌}
use Rattle.vortex_arrays_buffer.proofs.Collected.{Says}
use Rattle.vortex_arrays_buffer.proofs.collect.collect_byte.Given as goal

abbrev pub invariant-loop-j : goal.invariant-loop-j
invariant-loop-j g l = Says (λ i b. goal.F-post g l.f (l.first + i) b) l.byte l.j
