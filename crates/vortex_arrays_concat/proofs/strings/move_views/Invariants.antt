use Rattle.vortex_arrays_concat.proofs.StringLemmas.{Moving}
use Rattle.vortex_arrays_concat.proofs.strings.move_views.Given as goal

abbrev pub invariant-loop-i : goal.invariant-loop-i
invariant-loop-i l = Moving l.before l.start l.i l.fn.views.items l.views.items
