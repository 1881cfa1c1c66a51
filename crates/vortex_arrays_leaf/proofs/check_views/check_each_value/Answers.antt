use Rattle.std.proofs.Common.{rules, ◌≡◌, true, [], slice_index_or}
use Rattle.vortex_arrays_view.specs.Views.{value_of}
use Rattle.vortex_arrays_model.specs.Layout.{IsString}
use Rattle.vortex_arrays_core.specs.LayoutOf.{strings_of}
use Rattle.vortex_arrays_leaf.proofs.Checked.{rows_more}
use Rattle.vortex_arrays_leaf.proofs.check_views.check_each_value.Goals as goal

pub loop-i-preserved : goal.loop-i-preserved
loop-i-preserved c =
    let holds : c.holds_in.result ≡ true = search rules in
    rows_more (λ k. IsString (strings_of c.args.kind) (value_of (slice_index_or c.args.views.now k []) c.args.buffers.now)) c.loop-i.i c.loop-i.invariant (c.holds_in.ensures.holds holds)
