use Rattle.vortex_stats_evaluate.proofs.RowTruths.{proof_bound}
use Rattle.vortex_stats_evaluate.proofs.evaluate.prove.Goals as goal

pub returns-clause-truth : goal.returns-clause-truth
returns-clause-truth c =
    proof_bound c.args.scope.now.columns.items c.args.scope.now.rows c.args.e.now
    c.in_ok-bound.bound c.in_ok-bound.ensures c.truth_over-truth.result c.truth_over-truth.ensures
