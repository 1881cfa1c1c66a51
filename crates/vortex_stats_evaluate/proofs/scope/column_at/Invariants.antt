use Rattle.std.proofs.Common.{◌≡◌, drop}
use Rattle.vortex_stats_evaluate.specs.Scopes.{stats_at}
use Rattle.vortex_stats_evaluate.proofs.scope.column_at.Given as goal

abbrev pub invariant-loop-column : goal.invariant-loop-column
invariant-loop-column l =
    stats_at (drop l.column-index l.columns) l.path ≡ stats_at l.columns l.path
