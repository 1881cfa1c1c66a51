use Rattle.std.proofs.lemmas.Result.{IfOk-weaker}
use Rattle.vortex_dtype_core.specs.View.{type_of}
use Rattle.vortex_arrays_model.specs.Layout.{rows_of}
use Rattle.vortex_stats_bind.specs.Bound.{expression_of}
use Rattle.vortex_stats_pruner.proofs.PruningLemmas.{marks_selected}
use Rattle.vortex_stats_pruner.proofs.pruner.Pruner.all_selected.Goals as goal

pub returns-clause-sound : goal.returns-clause-sound
returns-clause-sound g c =
    let p = c.args.self.now in
    IfOk-weaker c.proved_zones.result _ _ (λ mask is.
    marks_selected (type_of p.dtype) (expression_of p.predicate) p.falsifier p.satisfier _
    (rows_of c.args.zones.now) mask.items p.sound is) c.proved_zones.ensures
