use Rattle.std.proofs.Common.{◌≡◌, take}
use Rattle.vortex_arrays_struct.specs.Pairs.{arrays_of}
use Rattle.vortex_arrays_struct.proofs.pairs.arrays_of_pairs.Given as goal

abbrev pub invariant-loop-pair : goal.invariant-loop-pair
invariant-loop-pair l = l.arrays.items ≡ arrays_of (take l.pair-index l.pairs)
