use Rattle.vortex_table_schema.proofs.BoundEntries.{found_here, passed_over}
use Rattle.vortex_table_schema.proofs.lengths.is_among.Goals as goal

pub returns-then-is_at : goal.returns-then-is_at
returns-then-is_at c =
    found_here c.args.positions.now c.args.entries.now c.loop-entry.entry-index c.entry-item.result _ c.loop-entry-test.true c.entry-item.is c.loop-entry.invariant
    c.is_at.result c.is_at.ensures c.if-is_at.true

pub loop-entry-preserved : goal.loop-entry-preserved
loop-entry-preserved c =
    passed_over c.args.positions.now c.args.entries.now c.loop-entry.entry-index c.entry-item.result _ c.loop-entry-test.true c.entry-item.is c.loop-entry.invariant
    c.is_at.result c.is_at.ensures c.if-is_at.false
