use Rattle.std.proofs.Common.{rules, ◌≡◌, true}
use Rattle.vortex_arrays_core.specs.LayoutOf.{valid_of}
use Rattle.vortex_arrays_leaf.specs.Strings.{HasValueAt}
use Rattle.vortex_arrays_leaf.proofs.Checked.{rows_more}
use Rattle.vortex_arrays_leaf.proofs.check_views.check_views_by_row.Goals as goal

pub loop-i-preserved : goal.loop-i-preserved
loop-i-preserved c =
    let has : c.has_value_at.result ≡ true = search rules in
    rows_more (HasValueAt c.args.views.now c.args.buffers.now (valid_of c.args.validity.now)) c.loop-i.i c.loop-i.invariant (c.has_value_at.ensures.has has)
