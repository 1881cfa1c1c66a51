use Rattle.std.proofs.Common.{◌≡◌, rules, map, sym, ap, subst, ◌∙◌}
use Rattle.std.specs.Result.{IfOk}
use Rattle.std.proofs.lemmas.Iterator.{YieldsList-from_slice, YieldsList-from_map, items_from_collect}
use Rattle.std.proofs.lemmas.Iterator.Consumers.{YieldsList-at}
use Rattle.std.proofs.lemmas.Simd.{map-map}
use Rattle.vortex_arrays_builder.specs.Strings.{buffered_len}
use Rattle.vortex_arrays_parts.specs.Values.{lent, raw_of_bytes}
use Rattle.vortex_arrays_parts.proofs.build.long_lengths.Goals as goal

pub returns : goal.returns
returns c =
    let vs = c.args.values.now in
    subst (λ ns. IfOk c.collect.result (λ lengths. lengths.items ≡ ns)) (sym (ap (map buffered_len) (map-map raw_of_bytes lent vs) ∙ map-map buffered_len (λ v. raw_of_bytes (lent v)) vs))
    (items_from_collect c.collect.result c.collect.ensures.ran
    (YieldsList-from_map _ (λ v. buffered_len (raw_of_bytes (lent v))) (YieldsList-at c.map.ensures.source (YieldsList-from_slice vs (search rules))) c.map.ensures.closure (λ x r q k. search rules)))
