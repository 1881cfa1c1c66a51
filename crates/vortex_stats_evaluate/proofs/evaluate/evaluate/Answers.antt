use Rattle.vortex_arrays_model.specs.Layout.{rows_of}
use Rattle.vortex_stats_evaluate.proofs.RowTruths.{rows_bound}
use Rattle.vortex_stats_evaluate.proofs.evaluate.evaluate.Goals as goal

pub returns-clause-truths : goal.returns-clause-truths
returns-clause-truths c =
    rows_bound c.args.scope.now.columns.items c.args.scope.now.rows c.args.e.now
    c.in_ok-bound.bound c.in_ok-bound.ensures (rows_of c.args.scope.now.array)
    c.in_ok-truths.truths.items c.in_ok-truths.ensures
