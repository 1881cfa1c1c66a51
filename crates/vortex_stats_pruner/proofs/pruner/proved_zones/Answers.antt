use Rattle.std.proofs.Common.{◌∙◌}
use Rattle.std.proofs.lemmas.Result.{IfOk-weaker}
use Rattle.vortex_arrays_model.specs.Layout.{rows_of}
use Rattle.vortex_stats_pruner.proofs.PruningLemmas.{proved_by, unmarked}
use Rattle.vortex_stats_pruner.proofs.pruner.proved_zones.Goals as goal

pub returns : goal.returns
returns g c =
    IfOk-weaker c.select.result _ _ (λ mask is. proved_by _ c.args.proof.now c.in-Some.proof
    c.in_ok-bound.bound (rows_of c.args.zones.now) mask.items c.in-Some.is c.in_ok-bound.ensures is)
    c.select.ensures

pub returns-in_default : goal.returns-in_default
returns-in_default g c =
    IfOk-weaker c.no_rows.result _ _ (λ mask is. is
    ∙ unmarked _ c.args.proof.now c.args.zones.now _ c.in_default.is c.len.ensures.count)
    c.no_rows.ensures
