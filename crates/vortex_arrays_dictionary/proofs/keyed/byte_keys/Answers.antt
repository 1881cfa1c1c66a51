use Rattle.std.proofs.Common.{length, rules, arith}
use Rattle.std.proofs.lemmas.Iterator.{YieldsList-from_range, YieldsList-from_map_by}
use Rattle.std.proofs.lemmas.Iterator.Consumers.{map_from_collect, YieldsList-at}
use Rattle.vortex_arrays_dictionary.specs.Columns.{bytes_or_none}
use Rattle.vortex_arrays_dictionary.proofs.keyed.byte_keys.Goals as goal

pub returns : goal.returns
returns c =
    let n = length c.args.views.now in
    map_from_collect c.collect.result c.collect.ensures.ran
    (YieldsList-from_map_by _ (λ key. key.bytes.now) (bytes_or_none c.args.views.now c.args.buffers.now c.args.present.now) (YieldsList-at c.map.ensures.source (YieldsList-from_range 0 n n (search rules) (omega arith))) c.map.ensures.closure (λ x r q k. search rules))
