use Rattle.std.proofs.Common.{◌≡◌, take}
use Rattle.vortex_arrays_concat.proofs.struct_array_concat.share.Given as goal

abbrev pub invariant-loop-array : goal.invariant-loop-array
invariant-loop-array l = l.shared.items ≡ take l.array-index l.arrays
