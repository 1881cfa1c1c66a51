use Rattle.vortex_arrays_model.specs.Layout.{required}
use Rattle.vortex_arrays_builder.proofs.IntegerLemmas.{PlacesAreRead}
use Rattle.vortex_arrays_builder.proofs.integers.read_each.Given as goal

abbrev pub invariant-loop-i : goal.invariant-loop-i
invariant-loop-i g l = PlacesAreRead g.T.Sealed.kind g.T.Sealed.integer l.width required l.bytes l.items.items l.rows l.i l.start
