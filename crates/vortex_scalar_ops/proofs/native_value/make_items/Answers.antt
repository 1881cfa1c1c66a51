use Rattle.std.proofs.Common.{◌≡◌, ◌∷◌}
use Rattle.std.specs.Vec.Iter.{into_iter_items}
use Rattle.vortex_scalar_ops.proofs.Casts.{all_have-more}
use Rattle.vortex_scalar_ops.proofs.NativeValues.{moved_over}
use Rattle.vortex_scalar_ops.proofs.native_value.make_items.Goals as goal

pub loop-value-preserved : goal.loop-value-preserved
loop-value-preserved g c =
    let at = c.loop-value in
    let v = c.in-Some.value in
    let behind = into_iter_items c.next.new.self in
    let item = c.in_ok-item.item in
    let next : into_iter_items at.value-iterator ≡ v ∷ behind = c.in-Some.ensures.steps.0 in
    let made = rw next at at.invariant.made in
    record {
      made = rw c.in_ok-push.ensures.items (moved_over g.T.NativeValue.raw at.items.items item v behind _ c.in_ok-item.ensures.value made);
      valid = rw c.in_ok-push.ensures.items (all_have-more g.T.NativeDType.values at.items.items item at.invariant.valid c.in_ok-item.ensures.valid);
    }
