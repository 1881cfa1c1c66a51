use Rattle.std.proofs.Common.{take}
use Rattle.vortex_arrays_concat.specs.Lists.{AreListsOf}
use Rattle.vortex_arrays_concat.proofs.lists.lists_of_all.Given as goal

abbrev pub invariant-loop-array : goal.invariant-loop-array
invariant-loop-array l = AreListsOf (take l.array-index l.arrays)
    l.elements.items l.offsets.items l.sizes.items l.total
