use Rattle.std.proofs.Common.{◌*◌}
use Rattle.vortex_arrays_buffer.proofs.Collected.{Fronts}
use Rattle.vortex_arrays_buffer.proofs.collect.collect_bytes.Given as goal

abbrev pub invariant-loop-k : goal.invariant-loop-k
invariant-loop-k g l = Fronts (λ i b. goal.F-post g l.f i b) l.bytes.items (8 * l.k) l.len
