use Rattle.vortex_arrays_core.specs.LayoutOf.{valid_of}
use Rattle.vortex_arrays_builder.proofs.IntegerLemmas.{PlacesAreRead}
use Rattle.vortex_arrays_builder.proofs.integers.read_by_row.Given as goal

abbrev pub invariant-loop-i : goal.invariant-loop-i
invariant-loop-i g l = PlacesAreRead g.T.Sealed.kind g.T.Sealed.integer l.width (valid_of l.validity) l.bytes l.items.items l.rows l.i l.start
