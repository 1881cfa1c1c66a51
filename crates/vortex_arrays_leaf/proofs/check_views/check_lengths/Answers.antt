use Rattle.std.proofs.Common.{rules, ◌≡◌, false}
use Rattle.vortex_arrays_core.specs.LayoutOf.{valid_of}
use Rattle.vortex_arrays_leaf.specs.ViewFaults.{IsLongAt}
use Rattle.vortex_arrays_leaf.proofs.Checked.{rows_more}
use Rattle.vortex_arrays_leaf.proofs.check_views.check_lengths.Goals as goal

pub loop-i-preserved : goal.loop-i-preserved
loop-i-preserved c =
    let short : c.is_long_at.result ≡ false = search rules in
    rows_more (λ k. IsLongAt c.args.views.now c.args.buffers.now (valid_of c.args.validity.now) k → ⊥) c.loop-i.i c.loop-i.invariant (c.is_long_at.ensures.short short)
