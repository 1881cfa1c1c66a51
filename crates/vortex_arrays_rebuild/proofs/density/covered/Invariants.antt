use Rattle.std.proofs.Common.{◌≡◌, length, take}
use Rattle.vortex_arrays_rebuild.proofs.DensityLemmas.{AreCoveredTo}
use Rattle.vortex_arrays_rebuild.proofs.density.covered.Given as goal

abbrev pub invariant-loop-j : goal.invariant-loop-j
invariant-loop-j l = record {
  front : AreCoveredTo l.ends l.j (take l.j l.marks.items) l.end;
  same : length l.marks.items ≡ length l.ends;
}
