use Rattle.std.proofs.Common.{◌≡◌, ◌<◌, ◌+◌, ℕ, suc, map}
use Rattle.vortex_arrays_model.specs.Layout.{numbers, required, content_at, number_in}
use Rattle.vortex_arrays_nested.proofs.follow.pairs_follow.Given as goal

abbrev pub invariant-loop-i : goal.invariant-loop-i
invariant-loop-i g l = (k : ℕ) → suc k < l.i → number_in (content_at (numbers g.T.Sealed.kind (map g.T.Sealed.integer l.offsets) required) (suc k)) ≡ number_in (content_at (numbers g.T.Sealed.kind (map g.T.Sealed.integer l.offsets) required) k) + number_in (content_at (numbers g.S.Sealed.kind (map g.S.Sealed.integer l.sizes) required) k)
