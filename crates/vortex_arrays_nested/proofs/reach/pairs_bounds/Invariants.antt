use Rattle.std.proofs.Common.{◌≤◌, map}
use Rattle.vortex_arrays_model.specs.Layout.{numbers, required}
use Rattle.vortex_arrays_nested.proofs.BoundsLemmas.{AreFirstBounds}
use Rattle.vortex_arrays_nested.proofs.reach.pairs_bounds.Given as goal

abbrev pub invariant-loop-i : goal.invariant-loop-i
invariant-loop-i g l = record {
  bounds : AreFirstBounds (numbers g.T.Sealed.kind (map g.T.Sealed.integer l.offsets) required) (numbers g.S.Sealed.kind (map g.S.Sealed.integer l.sizes) required) l.i l.least l.greatest;
  within : l.greatest ≤ l.count;
}
