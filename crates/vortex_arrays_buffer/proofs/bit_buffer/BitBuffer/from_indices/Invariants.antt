use Rattle.vortex_arrays_buffer.proofs.Built.{HasPlaces}
use Rattle.vortex_arrays_buffer.proofs.bit_buffer.BitBuffer.from_indices.Given as goal

abbrev pub invariant-loop-i : goal.invariant-loop-i
invariant-loop-i l = HasPlaces l.bytes.items l.indices l.i l.len
