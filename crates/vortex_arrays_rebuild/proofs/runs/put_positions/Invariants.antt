use Rattle.vortex_arrays_rebuild.proofs.PlaceLemmas.{PutPlaces}
use Rattle.vortex_arrays_rebuild.proofs.runs.put_positions.Given as goal

abbrev pub invariant-loop-j : goal.invariant-loop-j
invariant-loop-j l = PutPlaces l.fn.places.items l.places.items l.at l.run.start l.j
