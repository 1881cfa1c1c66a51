use Rattle.std.proofs.Common.{ℕ, ◌<◌, pos, map, get_or, false, IsTrue}
use Rattle.vortex_arrays_buffer.specs.Places.{IsPlace}
use Rattle.vortex_arrays_buffer.proofs.within.are_within_where.Given as goal

abbrev pub invariant-loop-i : goal.invariant-loop-i
invariant-loop-i g l = (k : ℕ) → k < l.i → IsTrue (get_or l.bits k false) → IsPlace l.count (get_or (map g.T.Sealed.integer l.items) k (pos 0))
