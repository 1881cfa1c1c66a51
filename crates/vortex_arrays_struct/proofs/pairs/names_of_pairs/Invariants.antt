use Rattle.std.proofs.Common.{◌≡◌, take}
use Rattle.vortex_arrays_struct.specs.Pairs.{names_of}
use Rattle.vortex_arrays_struct.proofs.pairs.names_of_pairs.Given as goal

abbrev pub invariant-loop-pair : goal.invariant-loop-pair
invariant-loop-pair l = l.names.items ≡ names_of (take l.pair-index l.pairs)
