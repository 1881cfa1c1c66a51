use Rattle.std.proofs.Common.{ℕ, ◌<◌, map}
use Rattle.vortex_arrays_nested.proofs.PairLemmas.{ViewAt}
use Rattle.vortex_arrays_nested.proofs.pairs.pairs_lie_within.Given as goal

abbrev pub invariant-loop-i : goal.invariant-loop-i
invariant-loop-i g l = (k : ℕ) → k < l.i → ViewAt l.count (map g.T.Sealed.integer l.offsets) (map g.S.Sealed.integer l.sizes) k
