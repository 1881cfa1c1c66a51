use Rattle.std.proofs.Common.{rules}
use Rattle.std.proofs.lemmas.Iterator.{YieldsList-from_slice, YieldsList-from_map_by}
use Rattle.std.proofs.lemmas.Iterator.Consumers.{map_from_collect, YieldsList-at}
use Rattle.vortex_arrays_leaf.specs.Options.{number_or_zero}
use Rattle.vortex_arrays_leaf.proofs.options.numbers_or_zero.Goals as goal

pub returns : goal.returns
returns g c =
    map_from_collect c.collect.result c.collect.ensures.ran
    (YieldsList-from_map_by _ g.T.Sealed.integer (number_or_zero g.T.Sealed.integer) (YieldsList-at c.map.ensures.source (YieldsList-from_slice c.args.items.now (search rules))) c.map.ensures.closure (λ x r q k. search rules))
