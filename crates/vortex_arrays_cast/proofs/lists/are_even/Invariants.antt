use Rattle.vortex_arrays_cast.proofs.EvenLemmas.{FirstEven}
use Rattle.vortex_arrays_cast.proofs.lists.are_even.Given as goal

abbrev pub invariant-loop-i : goal.invariant-loop-i
invariant-loop-i l = FirstEven l.offsets l.sizes l.size l.i l.end
