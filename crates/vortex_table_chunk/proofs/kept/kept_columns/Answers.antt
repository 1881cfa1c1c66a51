use Rattle.std.proofs.Common.{subst}
use Rattle.vortex_model_table.specs.ZoneMap.{values_at}
use Rattle.vortex_arrays_model.specs.Layout.{rows_of}
use Rattle.vortex_table_chunk.specs.Kept.{IsKeptOf}
use Rattle.vortex_table_chunk.proofs.KeptLemmas.{kept_pushed}
use Rattle.vortex_table_chunk.proofs.kept.kept_columns.Goals as goal

pub loop-index-preserved : goal.loop-index-preserved
loop-index-preserved c =
    let column = c.in_ok-column.column in let rows = rows_of c.args.array.now in
    kept_pushed c.args.leaves.now c.loop-index.index c.index-leaves-index.result c.loop-index.columns.items c.push.new.self.items column rows
    c.loop-index-test.true c.index-leaves-index.is c.in_ok-push.ensures.items c.loop-index.invariant
    (subst (λ is. IsKeptOf column (values_at is rows)) c.as_slice.ensures c.in_ok-column.ensures)
