use Rattle.std.proofs.Common.{◌≡◌, ◌<◌, ◌+◌, ℕ, suc}
use Rattle.vortex_arrays_model.specs.Layout.{content_at, number_in}
use Rattle.vortex_arrays_nested.proofs.views.rows_follow.Given as goal

abbrev pub invariant-loop-i : goal.invariant-loop-i
invariant-loop-i l = (k : ℕ) → suc k < l.i → number_in (content_at l.offsets (suc k)) ≡ number_in (content_at l.offsets k) + number_in (content_at l.sizes k)
