use Rattle.std.proofs.Common.{◌<◌, ℕ}
use Rattle.vortex_arrays_model.specs.Layout.{content_at, IsCode}
use Rattle.vortex_arrays_core.proofs.array.ArrayRef.are_within.Given as goal

abbrev pub invariant-loop-i : goal.invariant-loop-i
invariant-loop-i l = (k : ℕ) → k < l.i → IsCode l.count (content_at l.self k)
