use Rattle.std.proofs.Common.{map, rules}
use Rattle.std.proofs.lemmas.Iterator.{YieldsList-from_slice, YieldsList-from_map, items_from_collect}
use Rattle.std.proofs.lemmas.Iterator.Consumers.{YieldsList-at}
use Rattle.vortex_model.specs.Content.{integer}
use Rattle.vortex_arrays_validity.specs.Places.{place_at}
use Rattle.vortex_arrays_validity.proofs.places.items_at.Goals as goal

pub returns : goal.returns
returns g c =
    items_from_collect c.collect.result c.collect.ensures.ran
    (YieldsList-from_map _ (place_at c.args.none (map integer (map g.T.Sealed.integer c.args.items.now))) (YieldsList-at c.map.ensures.source (YieldsList-from_slice c.args.indices.now (search rules))) c.map.ensures.closure (λ x r q k. search rules))
