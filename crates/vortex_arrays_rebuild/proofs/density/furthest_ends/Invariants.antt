use Rattle.vortex_arrays_rebuild.specs.Density.{AreFurthest}
use Rattle.vortex_arrays_rebuild.proofs.density.furthest_ends.Given as goal

abbrev pub invariant-loop-i : goal.invariant-loop-i
invariant-loop-i l = AreFurthest l.offsets l.sizes l.i l.count l.ends.items
