use Rattle.std.proofs.Common.{◌≡◌, rules, sym, subst}
use Rattle.std.specs.Result.{IfOk}
use Rattle.std.proofs.lemmas.Iterator.{YieldsList-from_slice, YieldsList-from_map, items_from_collect}
use Rattle.std.proofs.lemmas.Iterator.Consumers.{YieldsList-at}
use Rattle.std.proofs.lemmas.Simd.{map-map}
use Rattle.vortex_arrays_validity.specs.Places.{number_or}
use Rattle.vortex_arrays_validity.proofs.places.items_or.Goals as goal

pub returns : goal.returns
returns g c =
    subst (λ ns. IfOk c.collect.result (λ places. places.items ≡ ns)) (sym (map-map (number_or c.args.none) g.T.Sealed.integer c.args.items.now))
    (items_from_collect c.collect.result c.collect.ensures.ran
    (YieldsList-from_map _ (λ x. number_or c.args.none (g.T.Sealed.integer x)) (YieldsList-at c.map.ensures.source (YieldsList-from_slice c.args.items.now (search rules))) c.map.ensures.closure (λ x r q k. search rules)))
