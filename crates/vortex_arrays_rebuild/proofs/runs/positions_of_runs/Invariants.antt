use Rattle.vortex_arrays_rebuild.proofs.PlaceLemmas.{Placed}
use Rattle.vortex_arrays_rebuild.proofs.runs.positions_of_runs.Given as goal

abbrev pub invariant-loop-i : goal.invariant-loop-i
invariant-loop-i l = Placed l.places.items l.runs.list.items l.i l.next
