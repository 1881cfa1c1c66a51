use Rattle.std.proofs.Common.{◌≡◌, rules, sym, subst}
use Rattle.std.specs.Result.{IfOk}
use Rattle.std.proofs.lemmas.Iterator.{YieldsList-from_slice, YieldsList-from_map, items_from_collect}
use Rattle.std.proofs.lemmas.Iterator.Consumers.{YieldsList-at}
use Rattle.std.proofs.lemmas.Simd.{map-map}
use Rattle.vortex_scalar_value.specs.View.{raw_at}
use Rattle.vortex_arrays_builder.specs.Strings.{buffered_len}
use Rattle.vortex_arrays_builder.proofs.strings.long_lengths.Goals as goal

pub returns : goal.returns
returns c =
    let vs = c.args.values.now in
    subst (λ ns. IfOk c.collect.result (λ lengths. lengths.items ≡ ns)) (sym (map-map buffered_len raw_at vs))
    (items_from_collect c.collect.result c.collect.ensures.ran
    (YieldsList-from_map _ (λ v. buffered_len (raw_at v)) (YieldsList-at c.map.ensures.source (YieldsList-from_slice vs (search rules))) c.map.ensures.closure (λ x r q k. search rules)))
