use Rattle.std.proofs.Common.{◌≡◌, ◌<◌, ◌≤◌, ℕ, false, cond, length, get_or}
use Rattle.vortex_arrays_rebuild.proofs.density.empty_nulls.Given as goal

abbrev pub invariant-loop-i : goal.invariant-loop-i
invariant-loop-i l = record {
  many : length l.sizes.items ≡ length l.initial.sizes.items;
  emptied : (k : ℕ) → k < l.i → get_or l.sizes.items k 0 ≡ cond (get_or l.bits k false) (get_or l.initial.sizes.items k 0) 0;
  kept : (k : ℕ) → l.i ≤ k → get_or l.sizes.items k 0 ≡ get_or l.initial.sizes.items k 0;
}
