use Rattle.vortex_table_select.proofs.Lists.{one_empty}
use Rattle.vortex_table_select.proofs.rows.empty_lists.Goals as goal

pub loop-row-preserved : goal.loop-row-preserved
loop-row-preserved c =
    one_empty c.args.rows.now c.loop-row._row-index c.loop-row.lists.items c.push.new.self.items c.in_ok-list.list c.loop-row-test.true c.in_ok-list.ensures.items c.in_ok-push.ensures.items c.loop-row.invariant
