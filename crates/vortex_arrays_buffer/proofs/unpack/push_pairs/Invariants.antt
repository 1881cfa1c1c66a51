use Rattle.vortex_arrays_buffer.proofs.ByteLemmas.{Spread}
use Rattle.vortex_arrays_buffer.proofs.unpack.push_pairs.Given as goal

abbrev pub invariant-loop-j : goal.invariant-loop-j
invariant-loop-j l = Spread l.flags.items l.bytes l.first l.pairs l.j
