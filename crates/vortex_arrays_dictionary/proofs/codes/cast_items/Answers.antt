use Rattle.std.proofs.Common.{rules, pos}
use Rattle.std.proofs.lemmas.Iterator.{YieldsList-from_slice, YieldsList-from_map_by}
use Rattle.std.proofs.lemmas.Iterator.Consumers.{map_from_collect, YieldsList-at}
use Rattle.vortex_arrays_dictionary.proofs.codes.cast_items.Goals as goal

pub returns : goal.returns
returns g c =
    map_from_collect c.collect.result c.collect.ensures.ran
    (YieldsList-from_map_by _ g.T.Sealed.integer (λ n. pos n) (YieldsList-at c.map.ensures.source (YieldsList-from_slice c.args.numbers.now (search rules))) c.map.ensures.closure (λ x r q k. search rules))
