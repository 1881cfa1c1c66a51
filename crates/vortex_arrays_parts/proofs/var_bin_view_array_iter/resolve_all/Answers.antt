use Rattle.std.proofs.Common.{rules, arith}
use Rattle.std.proofs.lemmas.Iterator.{YieldsList-from_range, YieldsList-from_map_by}
use Rattle.std.proofs.lemmas.Iterator.Consumers.{map_from_collect, YieldsList-at}
use Rattle.vortex_arrays_model.specs.Layout.{len_of}
use Rattle.vortex_arrays_parts.specs.Values.{lent, value_at}
use Rattle.vortex_arrays_parts.proofs.var_bin_view_array_iter.resolve_all.Goals as goal

pub returns : goal.returns
returns c =
    let a = c.args.array.now in
    map_from_collect c.collect.result c.collect.ensures.ran
    (YieldsList-from_map_by _ lent (value_at a) (YieldsList-at c.map.ensures.source (YieldsList-from_range 0 (len_of a) (len_of a) (search rules) (omega arith))) c.map.ensures.closure (λ x r q k. search rules))
