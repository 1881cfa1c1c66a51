use Rattle.std.proofs.Common.{map}
use Rattle.vortex_arrays_parts.specs.Values.{lent}
use Rattle.vortex_arrays_parts.proofs.ViewLemmas.{Inlined}
use Rattle.vortex_arrays_parts.proofs.build.inline_short.Given as goal

abbrev pub invariant-loop-i : goal.invariant-loop-i
invariant-loop-i l = Inlined (map lent l.values) l.i l.fn.views l.views
