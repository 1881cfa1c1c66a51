use Rattle.std.proofs.Common.{rules, ◌≡◌, true}
use Rattle.vortex_arrays_model.specs.Layout.{bools, required, by_array}
use Rattle.vortex_arrays_leaf.specs.Strings.{HasValueAt}
use Rattle.vortex_arrays_leaf.proofs.Checked.{rows_more}
use Rattle.vortex_arrays_leaf.proofs.check_views.check_views_where.Goals as goal

pub loop-i-preserved : goal.loop-i-preserved
loop-i-preserved c =
    let has : c.has_value_where.result ≡ true = search rules in
    rows_more (HasValueAt c.args.views.now c.args.buffers.now (by_array (bools c.args.bits.now required))) c.loop-i.i c.loop-i.invariant (c.has_value_where.ensures.has has)
