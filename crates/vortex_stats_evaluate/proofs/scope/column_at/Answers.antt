use Rattle.vortex_stats_evaluate.proofs.Found.{found_here, passed_over}
use Rattle.vortex_stats_evaluate.proofs.scope.column_at.Goals as goal

pub returns-then-is_at : goal.returns-then-is_at
returns-then-is_at c =
    found_here c.args.path.now c.args.columns.now c.loop-column.column-index c.column-item.result _
    c.loop-column-test.true c.column-item.is c.loop-column.invariant c.is_at.result
    c.is_at.ensures c.if-is_at.true

pub loop-column-preserved : goal.loop-column-preserved
loop-column-preserved c =
    passed_over c.args.path.now c.args.columns.now c.loop-column.column-index c.column-item.result _
    c.loop-column-test.true c.column-item.is c.loop-column.invariant c.is_at.result
    c.is_at.ensures c.if-is_at.false
