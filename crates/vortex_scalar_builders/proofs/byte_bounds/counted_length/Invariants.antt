use Rattle.std.proofs.Common.{◌≡◌, ℕ, ◌<◌, ◌≤◌, get_or}
use Rattle.vortex_scalar_builders.proofs.byte_bounds.counted_length.Given as goal

abbrev pub invariant-loop-end : goal.invariant-loop-end
invariant-loop-end l = record {
  within : l.end ≤ l.limit;
  full : (k : ℕ) → l.end ≤ k → k < l.limit → get_or l.bytes k 0 ≡ 255;
}

abbrev pub decreases-loop-end : goal.decreases-loop-end
decreases-loop-end l = l.end
