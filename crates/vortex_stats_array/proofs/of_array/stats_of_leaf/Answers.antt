use Rattle.std.proofs.Common.{sym, ap, ◌∙◌, subst}
use Rattle.vortex_arrays_model.specs.Layout.{len_of}
use Rattle.vortex_arrays_core.specs.LayoutOf.{layout_of}
use Rattle.vortex_stats_array.specs.Asked.{AreStatsOf}
use Rattle.vortex_stats_array.specs.Counted.{CountsEach}
use Rattle.vortex_stats_array.proofs.of_array.stats_of_leaf.Goals as goal

pub stats_of_bools-requires-clause-counted : goal.stats_of_bools-requires-clause-counted
stats_of_bools-requires-clause-counted c =
    subst (λ a. CountsEach c.args.counts (len_of a)) (sym c.layout.ensures.layout ∙ ap layout_of c.in-Bool.is) c.requires

pub stats_of_numbers-requires-clause-counted : goal.stats_of_numbers-requires-clause-counted
stats_of_numbers-requires-clause-counted c =
    subst (λ a. CountsEach c.args.counts (len_of a)) (sym c.layout.ensures.layout ∙ ap layout_of c.in-Primitive.is) c.requires

pub returns-in_ok-stats-in-Bool : goal.returns-in_ok-stats-in-Bool
returns-in_ok-stats-in-Bool c =
    subst (λ a. AreStatsOf c.args.asked.now c.args.counts a c.in_ok-stats-in-Bool.stats) (sym (ap layout_of c.in-Bool.is) ∙ c.layout.ensures.layout) c.in_ok-stats-in-Bool.ensures

pub returns-in_ok-stats-in-Primitive : goal.returns-in_ok-stats-in-Primitive
returns-in_ok-stats-in-Primitive c =
    subst (λ a. AreStatsOf c.args.asked.now c.args.counts a c.in_ok-stats-in-Primitive.stats) (sym (ap layout_of c.in-Primitive.is) ∙ c.layout.ensures.layout) c.in_ok-stats-in-Primitive.ensures
