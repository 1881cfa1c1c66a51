use Rattle.std.proofs.Common.{◌≡◌, ◌+◌, ◌*◌}
use Rattle.vortex_arrays_buffer.specs.Bits.{bit_of}
use Rattle.vortex_arrays_buffer.proofs.Collected.{Fronts}
use Rattle.vortex_arrays_buffer.proofs.bitwise.moved.Given as goal

abbrev pub invariant-loop-k : goal.invariant-loop-k
invariant-loop-k l = Fronts (λ i b. b ≡ bit_of l.bytes (l.start + i)) l.moved.items (8 * l.k) l.len
