use Rattle.std.proofs.Common.{◌≡◌, rules, Some, map, option_map, sym, subst}
use Rattle.std.specs.Result.{IfOk}
use Rattle.std.proofs.iter.Yields.{fronts}
use Rattle.std.proofs.lemmas.Iterator.{YieldsList-from_slice, YieldsList-from_map_by}
use Rattle.std.proofs.lemmas.Iterator.Consumers.{map_from_collect, YieldsList-at}
use Rattle.std.proofs.lemmas.Simd.{map-map}
use Rattle.vortex_arrays_model.specs.Layout.{byte_strings}
use Rattle.vortex_arrays_parts.specs.Values.{lent, IsHeld, IsPresent}
use Rattle.vortex_arrays_parts.proofs.LentLemmas.{all_lent}
use Rattle.vortex_arrays_parts.proofs.lend.lend_bytes.Goals as goal

pub returns-clause-values : goal.returns-clause-values
returns-clause-values g c =
    let xs = c.args.items.now in
    subst (λ vs. IfOk c.collect.result (λ all. map lent all.items ≡ vs)) (sym (map-map (option_map g.T.AsSlice.items) Some xs))
    (map_from_collect c.collect.result c.collect.ensures.ran
    (YieldsList-from_map_by _ lent (λ x. Some (g.T.AsSlice.items x)) (YieldsList-at c.map.ensures.source (YieldsList-from_slice xs (search rules))) c.map.ensures.closure (λ x r q k. search rules)))

pub returns-clause-held : goal.returns-clause-held
returns-clause-held g c = all_lent fronts c.map.result (IsHeld byte_strings) c.collect.result c.collect.ensures.ran c.map.ensures.closure (λ x r q k. search rules)

pub returns-clause-present : goal.returns-clause-present
returns-clause-present g c = all_lent fronts c.map.result IsPresent c.collect.result c.collect.ensures.ran c.map.ensures.closure (λ x r q k. search rules)
