use Rattle.std.proofs.Common.{sym, ◌∙◌}
use Rattle.vortex_table_chunk.proofs.LeafBounds.{passed_over}
use Rattle.vortex_table_chunk.proofs.chunk.bounds_at.Goals as goal

pub loop-index-preserved : goal.loop-index-preserved
loop-index-preserved c =
    passed_over c.args.leaves.now c.args.bounds.now c.args.positions.now c.loop-index.index c.index-leaves-index.result _ c.loop-index-test.true c.index-leaves-index.is
    (sym c.equals.ensures ∙ c.if-equals.false) c.loop-index.invariant
