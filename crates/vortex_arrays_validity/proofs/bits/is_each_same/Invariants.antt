use Rattle.std.proofs.Common.{◌≡◌, ◌<◌, ℕ}
use Rattle.vortex_arrays_model.specs.Layout.{is_valid}
use Rattle.vortex_arrays_core.specs.LayoutOf.{valid_of}
use Rattle.vortex_arrays_validity.proofs.bits.is_each_same.Given as goal

abbrev pub invariant-loop-i : goal.invariant-loop-i
invariant-loop-i l =
    (j : ℕ) → j < l.i → is_valid (valid_of l.mine) j ≡ is_valid (valid_of l.theirs) j
