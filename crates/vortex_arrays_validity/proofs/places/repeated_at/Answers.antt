use Rattle.std.proofs.Common.{replicate, get_or, rules}
use Rattle.std.proofs.lemmas.Iterator.{YieldsList-from_slice, YieldsList-from_map, items_from_collect}
use Rattle.std.proofs.lemmas.Iterator.Consumers.{YieldsList-at}
use Rattle.vortex_arrays_validity.proofs.places.repeated_at.Goals as goal

pub returns : goal.returns
returns c =
    items_from_collect c.collect.result c.collect.ensures.ran
    (YieldsList-from_map _ (λ i. get_or (replicate c.args.len c.args.place) i c.args.none) (YieldsList-at c.map.ensures.source (YieldsList-from_slice c.args.indices.now (search rules))) c.map.ensures.closure (λ x r q k. search rules))
