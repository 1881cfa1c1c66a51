use Rattle.std.proofs.Common.{◌≡◌, sym, ap, ◌∙◌, Some}
use Rattle.vortex_model_table.specs.Truth.{is_true}
use Rattle.vortex_stats_bind.specs.Bound.{evaluate_bound}
use Rattle.vortex_stats_bind.specs.Replaced.{answered, replaced, typed_null}
use Rattle.vortex_table_chunk.specs.BoundStat.{zone_provided}
use Rattle.vortex_table_chunk.specs.Proved.{proved_in}
use Rattle.vortex_table_zonemaps.specs.Answers.{zone_answers, bound_to}
use Rattle.vortex_table_zonemaps.specs.Stats.{Zone}
use Rattle.vortex_table_zonemaps.specs.Zone.{columns_of}
use Rattle.vortex_table_zonemaps.proofs.Binding.{bound_says}
use Rattle.vortex_table_zonemaps.proofs.bind.resolve.Goals as goal

pub returns : goal.returns
returns c = λ bounds rows.
    let leaves = c.args.leaves.now in let proof = c.in-Some.proof in let zone : Zone = (bounds, rows) in
    let same : c.in_ok-bound.bound ≡ bound_to leaves proof = c.in_ok-bound.ensures ∙ (λ i. replaced (answered (Some ((c.deref.ensures ∙ c.in_ok-rows.ensures) i)) (zone_answers leaves) typed_null) proof) in
    ap is_true (ap (evaluate_bound (columns_of zone)) same ∙ bound_says zone leaves proof)
    ∙ ap (proved_in (zone_provided leaves bounds rows)) (sym c.in-Some.is)
