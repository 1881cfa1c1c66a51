use Rattle.vortex_arrays_concat.proofs.FixedLemmas.{Gathered}
use Rattle.vortex_arrays_concat.proofs.fixed_lists.elements_of_all.Given as goal

abbrev pub invariant-loop-array : goal.invariant-loop-array
invariant-loop-array l = Gathered l.size l.arrays l.array-index l.parts.items
