use Rattle.vortex_arrays_rebuild.proofs.ItemLemmas.{Written}
use Rattle.vortex_arrays_rebuild.proofs.items.copy_bits.Given as goal

abbrev pub invariant-loop-i : goal.invariant-loop-i
invariant-loop-i l = Written l.bits l.copied.items l.runs.list.items l.i l.next
