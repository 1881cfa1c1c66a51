use Rattle.std.proofs.Common.{map}
use Rattle.vortex_scalar_value.specs.View.{raw_at}
use Rattle.vortex_arrays_builder.proofs.StringLemmas.{Inlined}
use Rattle.vortex_arrays_builder.proofs.strings.inline_short.Given as goal

abbrev pub invariant-loop-i : goal.invariant-loop-i
invariant-loop-i l = Inlined (map raw_at l.values) l.i l.fn.views l.views
