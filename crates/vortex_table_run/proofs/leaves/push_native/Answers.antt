use Rattle.std.proofs.Common.{map}
use Rattle.vortex_arrays_model.specs.Layout.{content_at, numbers}
use Rattle.vortex_arrays_core.specs.LayoutOf.{valid_of}
use Rattle.vortex_table_run.proofs.Contents.{one_more_row}
use Rattle.vortex_table_run.proofs.leaves.push_native.Goals as goal

pub loop-k-preserved : goal.loop-k-preserved
loop-k-preserved g c =
    one_more_row c.loop-k.out.items c.push_comma.new.out.items c.push_item.new.out.items _ c.loop-k.later (content_at (numbers g.T.Sealed.kind (map g.T.Sealed.integer c.args.items.now) (valid_of c.args.validity.now)))
    c.args.start c.loop-k.k c.args.count c.loop-k-test.true c.in_ok-push_comma.ensures c.in_ok-push_item.ensures c.loop-k.invariant
