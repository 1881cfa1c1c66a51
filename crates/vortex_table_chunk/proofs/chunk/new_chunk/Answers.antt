use Rattle.std.proofs.Common.{◌≡◌, ap, subst, ◌∙◌}
use Rattle.vortex_arrays_model.specs.Layout.{array_type_of, rows_of}
use Rattle.vortex_table_chunk.specs.Bounds.{AreBoundsOf}
use Rattle.vortex_table_chunk.specs.Kept.{AreKeptOf}
use Rattle.vortex_table_chunk.proofs.chunk.new_chunk.Goals as goal

pub with_bounds-requires-clause-bounds : goal.with_bounds-requires-clause-bounds
with_bounds-requires-clause-bounds c =
    let bounds = c.in_ok-bounds.bounds.items in let rows = rows_of c.args.array in let k = array_type_of c.args.array in
    let same_leaves : c.deref-2.result.now ≡ c.args.leaves.now.value.items = c.deref-2.ensures.value ∙ ap (λ v. v.items) c.deref.ensures in
    let same_lengths : c.deref-4.result.now ≡ c.args.lengths.now.value.items = c.deref-4.ensures.value ∙ ap (λ v. v.items) c.deref-3.ensures in
    subst (λ ns. AreBoundsOf k ns c.args.leaves.now.value.items bounds rows) same_lengths (subst (λ ls. AreBoundsOf k c.deref-4.result.now ls bounds rows) same_leaves c.in_ok-bounds.ensures.statistics)

pub with_bounds-requires-clause-columns : goal.with_bounds-requires-clause-columns
with_bounds-requires-clause-columns c =
    let same_leaves : c.deref-6.result.now ≡ c.args.leaves.now.value.items = c.deref-6.ensures.value ∙ ap (λ v. v.items) c.deref-5.ensures in
    subst (λ ls. AreKeptOf ls c.in_ok-columns.columns.items (rows_of c.args.array)) same_leaves c.in_ok-columns.ensures
