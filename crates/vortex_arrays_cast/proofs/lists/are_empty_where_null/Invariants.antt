use Rattle.vortex_arrays_core.specs.LayoutOf.{valid_of}
use Rattle.vortex_arrays_cast.proofs.ListLemmas.{AreEmpty}
use Rattle.vortex_arrays_cast.proofs.lists.are_empty_where_null.Given as goal

abbrev pub invariant-loop-i : goal.invariant-loop-i
invariant-loop-i l = AreEmpty (valid_of l.validity) l.sizes l.i
