use Rattle.std.proofs.Common.{◌≡◌, sym, ap, ◌∙◌, subst, false, None}
use Rattle.std.specs.Prelude.{IfOk, MatchOption}
use Rattle.vortex_model.specs.LogicalType.{nullability_of, either_nullable}
use Rattle.vortex_model.specs.Kept.{is_leaf}
use Rattle.vortex_arrays_model.specs.Layout.{dictionary, array_type_of, IsSound}
use Rattle.vortex_arrays_core.specs.LayoutOf.{layout_of}
use Rattle.vortex_stats_array.specs.Asked.{AreStatsOf}
use Rattle.vortex_stats_array.proofs.Told.{leaf_kept}
use Rattle.vortex_stats_array.proofs.of_array.stats_of_rows.Goals as goal

pub stats_of_dictionary-requires-clause-kind : goal.stats_of_dictionary-requires-clause-kind
stats_of_dictionary-requires-clause-kind c = (subst IsSound (ap layout_of c.in-Dict.is) c.layout.ensures.sound).2

pub stats_of_dictionary-requires-clause-within : goal.stats_of_dictionary-requires-clause-within
stats_of_dictionary-requires-clause-within c = (subst IsSound (ap layout_of c.in-Dict.is) c.layout.ensures.sound).3

pub returns-then-len : goal.returns-then-len
returns-then-len c =
    let codes = c.in-Dict.codes in let values = c.in-Dict.values in let flag = c.in-Dict.field-2 in
    let same = sym (ap layout_of c.in-Dict.is) ∙ c.layout.ensures.layout in
    let n = either_nullable (nullability_of (array_type_of codes)) (nullability_of (array_type_of values)) in
    subst (λ a. IfOk c.stats_of_dictionary.result (λ found. MatchOption found (is_leaf (array_type_of a) ≡ false) (AreStatsOf c.args.asked.now None a))) same
    (subst (λ b. IfOk c.stats_of_dictionary.result (λ found. MatchOption found (b ≡ false) (AreStatsOf c.args.asked.now None (dictionary codes values flag)))) (sym (leaf_kept n (array_type_of values)))
    (c.stats_of_dictionary.ensures flag))
