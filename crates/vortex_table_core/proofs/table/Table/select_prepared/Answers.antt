use Rattle.std.proofs.Common.{◌≡◌, ap, subst, ◌∙◌}
use Rattle.vortex_dtype_core.specs.View.{type_of}
use Rattle.vortex_table_schema.specs.Leaves.{leaf_positions}
use Rattle.vortex_table_chunk.proofs.EqualLeaves.{leaves_so}
use Rattle.vortex_table_zonemaps.specs.Proved.{IsResolved}
use Rattle.vortex_table_core.proofs.table.Table.select_prepared.Goals as goal

pub run-requires : goal.run-requires
run-requires c =
    let t = c.args.self.now in let k = type_of t.dtype in
    let plan = c.args.prepared.now in
    let led = leaves_so t.leaves.value.items (leaf_positions k) t.led in
    let first : c.deref-2.result.now ≡ leaf_positions k = c.deref-2.ensures.value ∙ ap (λ v. v.items) c.deref.ensures ∙ led in
    let second : c.deref-4.result.now ≡ leaf_positions k = c.deref-4.ensures.value ∙ ap (λ v. v.items) c.deref-3.ensures ∙ led in
    record {
      prepared = c.requires;
      falsifier = subst (λ leaves. IsResolved leaves plan.falsifier c.in_ok-falsifier.falsifier) first c.in_ok-falsifier.ensures;
      satisfier = subst (λ leaves. IsResolved leaves plan.satisfier c.in_ok-satisfier.satisfier) second c.in_ok-satisfier.ensures;
    }
