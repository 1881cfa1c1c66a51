use Rattle.std.proofs.Common.{take}
use Rattle.vortex_arrays_core.specs.LayoutOf.{strings_of}
use Rattle.vortex_arrays_concat.specs.Strings.{AreViewsOf}
use Rattle.vortex_arrays_concat.proofs.strings.views_of_all.Given as goal

abbrev pub invariant-loop-array : goal.invariant-loop-array
invariant-loop-array l =
    AreViewsOf (strings_of l.kind) (take l.array-index l.arrays) l.views.items l.buffers.items
