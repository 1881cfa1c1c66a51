use Rattle.std.proofs.Common.{◌≡◌, ◌∙◌, ap, Some, ◌∷◌, map}
use Rattle.std.specs.Vec.Iter.{into_iter_items}
use Rattle.vortex_model.specs.Content.{content_of}
use Rattle.vortex_dtype_core.specs.View.{type_of}
use Rattle.vortex_scalar_value.specs.View.{raw_in}
use Rattle.vortex_table_schema.proofs.OwnType.{content_kept, left_valid, kept_valid}
use Rattle.vortex_table_schema.proofs.append.keep_rows.Goals as goal

pub loop-value-preserved : goal.loop-value-preserved
loop-value-preserved c =
    let k = type_of c.args.dtype.now in
    let at = c.loop-value in
    let rows = at.rows.items in
    let more = c.push.new.self.items in
    let row = c.in-Some-value.row in
    let left = into_iter_items at.value-iterator in
    let behind = into_iter_items c.next.new.self in
    let next : left ≡ Some row ∷ behind = c.in-Some.ensures.steps.0 ∙ ap (λ v. v ∷ behind) c.in-Some-value.is in
    let made = c.in_ok-push.ensures.items in
    record {
      content = content_kept k rows more row left behind made next (map content_of (map raw_in c.args.values.items)) at.invariant.content;
      sources = left_valid k rows more row left behind made next at.invariant.sources;
      valid = kept_valid k rows more row left behind made next at.invariant.sources at.invariant.valid;
    }
