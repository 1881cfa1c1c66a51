use Rattle.std.proofs.Common.{rules}
use Rattle.vortex_arrays_view.specs.Views.{HasValue}
use Rattle.vortex_arrays_leaf.proofs.Checked.{each_more}
use Rattle.vortex_arrays_leaf.proofs.check_views.check_each_view.Goals as goal

pub loop-i-preserved : goal.loop-i-preserved
loop-i-preserved c = each_more (λ x. HasValue x c.args.buffers.now) c.args.views.now c.loop-i.i c.index-views-i.result c.loop-i.invariant (search rules) c.index-views-i.is (search rules)
