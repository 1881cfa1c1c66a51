use Rattle.vortex_arrays_rebuild.proofs.ItemLemmas.{Put}
use Rattle.vortex_arrays_rebuild.proofs.items.put_bits.Given as goal

abbrev pub invariant-loop-j : goal.invariant-loop-j
invariant-loop-j l = Put l.fn.copied.items l.bits l.copied.items l.at l.run.start l.j
