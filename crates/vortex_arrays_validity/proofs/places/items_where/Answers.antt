use Rattle.std.proofs.Common.{◌≡◌, cond, rules, subst}
use Rattle.std.specs.Result.{IfOk}
use Rattle.std.proofs.lemmas.Iterator.{YieldsList-from_slice, YieldsList-from_map, YieldsList-from_zip, items_from_collect}
use Rattle.std.proofs.lemmas.Iterator.Consumers.{YieldsList-at}
use Rattle.vortex_arrays_validity.specs.Places.{number_or}
use Rattle.vortex_arrays_validity.proofs.PlaceLemmas.{zip_numbers}
use Rattle.vortex_arrays_validity.proofs.places.items_where.Goals as goal

pub returns : goal.returns
returns g c =
    subst (λ ns. IfOk c.collect.result (λ places. places.items ≡ ns)) (zip_numbers c.args.none g.T.Sealed.integer c.args.items.now c.args.rows.now)
    (items_from_collect c.collect.result c.collect.ensures.ran
    (YieldsList-from_map _ (λ p. cond p.1 (number_or c.args.none (g.T.Sealed.integer p.0)) c.args.none) (YieldsList-at c.map.ensures.source
    (YieldsList-from_zip (YieldsList-from_slice c.args.items.now (search rules)) (YieldsList-from_slice c.args.rows.now (search rules)))) c.map.ensures.closure (λ x r q k. search rules)))
