use Rattle.std.proofs.Common.{◌≡◌, ◌∷◌, Option, Some, refl}
use Rattle.std.specs.Vec.Iter.{into_iter_items}
use Rattle.vortex_model.specs.LogicalType.{struct, non_nullable}
use Rattle.vortex_model.specs.Content.{raw_tuple}
use Rattle.vortex_scalar_value.specs.View.{raws_from}
use Rattle.vortex_scalar_value.specs.declared.scalar_value.ScalarValue.{ScalarValue}
use Rattle.vortex_scalar_ops.proofs.Casts.{all_have-more}
use Rattle.vortex_scalar_ops.proofs.NativeValues.{moved_over}
use Rattle.vortex_scalar_ops.proofs.native_row.make_rows.Goals as goal

pub loop-fields-preserved : goal.loop-fields-preserved
loop-fields-preserved g c =
    let at = c.loop-fields in
    let r = c.in-Some.fields in
    let behind = into_iter_items c.next.new.self in
    let item : Option ScalarValue = Some c.in_ok-value.value in
    let next : into_iter_items at.fields-iterator ≡ r ∷ behind = c.in-Some.ensures.steps.0 in
    let made = rw next at at.invariant.made in
    record {
      made = rw c.in_ok-push.ensures.items (moved_over (λ s. raw_tuple (raws_from (g.R.NativeRow.raws s))) at.made.items item r behind _ c.in_ok-value.ensures.value made);
      valid = λ fs e. rw c.in_ok-push.ensures.items (all_have-more (struct fs non_nullable) at.made.items item (at.invariant.valid fs e) (c.in_ok-value.ensures.valid fs e));
    }
