use Rattle.std.proofs.Common.{ℕ, List, subst}
use Rattle.vortex_arrays_model.specs.Layout.{IsSound}
use Rattle.vortex_arrays_core.specs.LayoutOf.{valid_of}
use Rattle.vortex_arrays_rebuild.specs.Runs.{positions_in}
use Rattle.vortex_arrays_rebuild.proofs.RebuildLemmas.{laid_sound}
use Rattle.vortex_arrays_rebuild.proofs.rebuild.lay_out.Goals as goal

pub of_list_views-requires : goal.of_list_views-requires
of_list_views-requires c =
    let ps : List ℕ = positions_in c.in_ok-plan.plan.runs.list.items in
    λ _ starts counts. rw (c.in_ok-starts.ensures, c.in_ok-counts.ensures)
    (laid_sound c.args.elements.now c.args.offsets.now c.args.sizes.now (valid_of c.args.validity) c.in_ok-items.items c.in_ok-plan.plan.offsets.items c.in_ok-plan.plan.sizes.items ps c.requires c.in_ok-plan.ensures.canonical c.in_ok-items.ensures.made
    (subst IsSound c.in_ok-starts.ensures starts) (subst IsSound c.in_ok-counts.ensures counts))
