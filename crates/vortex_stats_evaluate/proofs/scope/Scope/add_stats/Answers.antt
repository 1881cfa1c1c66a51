use Rattle.std.proofs.Common.{subst}
use Rattle.vortex_arrays_model.specs.Layout.{array_type_of}
use Rattle.vortex_stats_evaluate.specs.Scopes.{IsOf}
use Rattle.vortex_stats_evaluate.proofs.Adding.{behind}
use Rattle.vortex_stats_evaluate.proofs.scope.Scope.add_stats.Goals as goal

pub returns-clause-added : goal.returns-clause-added
returns-clause-added c =
    behind (array_type_of c.args.self.now.array) c.args.path c.args.stats
    c.args.self.now.columns.items c.push.new.self.items c.in_ok-column.column
    (subst (λ k. IsOf k c.args.path c.args.stats c.in_ok-column.column) c.dtype.ensures
    c.in_ok-column.ensures.of) c.in_ok-push.ensures.items
