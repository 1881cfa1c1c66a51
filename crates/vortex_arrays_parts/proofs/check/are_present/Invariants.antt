use Rattle.std.proofs.Common.{map, take}
use Rattle.std.specs.List.{All}
use Rattle.vortex_arrays_parts.specs.Values.{lent, IsPresent}
use Rattle.vortex_arrays_parts.proofs.check.are_present.Given as goal

abbrev pub invariant-loop-value : goal.invariant-loop-value
invariant-loop-value l = All IsPresent (map lent (take l.value-index l.values))
