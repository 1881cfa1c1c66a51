use Rattle.std.proofs.Common.{◌≤◌}
use Rattle.vortex_arrays_nested.proofs.BoundsLemmas.{AreFirstBounds}
use Rattle.vortex_arrays_nested.proofs.bounds.rows_bounds.Given as goal

abbrev pub invariant-loop-i : goal.invariant-loop-i
invariant-loop-i l = record {
  bounds : AreFirstBounds l.offsets l.sizes l.i l.least l.greatest;
  within : l.greatest ≤ l.count;
}
