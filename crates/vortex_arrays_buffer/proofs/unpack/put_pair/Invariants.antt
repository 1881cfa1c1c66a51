use Rattle.vortex_arrays_buffer.proofs.ByteLemmas.{Put}
use Rattle.vortex_arrays_buffer.proofs.unpack.put_pair.Given as goal

abbrev pub invariant-loop-i : goal.invariant-loop-i
invariant-loop-i l = Put l.fn.flags.items l.sixteen l.flags.items l.at l.i
