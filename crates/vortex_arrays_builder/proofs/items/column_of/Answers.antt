use Rattle.std.proofs.Common.{◌≡◌, rules, map, sym, subst}
use Rattle.std.specs.Result.{IfOk}
use Rattle.std.proofs.lemmas.Iterator.{YieldsList-from_slice, YieldsList-from_map_by}
use Rattle.std.proofs.lemmas.Iterator.Consumers.{map_from_collect, YieldsList-at}
use Rattle.std.proofs.lemmas.Simd.{map-map}
use Rattle.vortex_scalar_value.specs.Parts.{raw_part}
use Rattle.vortex_scalar_value.specs.View.{raw_at}
use Rattle.vortex_arrays_builder.proofs.items.column_of.Goals as goal

pub returns : goal.returns
returns c =
    let vs = c.args.values.now in
    subst (λ rs. IfOk c.collect.result (λ column. map raw_at column.items ≡ rs)) (sym (map-map (λ r. raw_part r c.args.index) raw_at vs))
    (map_from_collect c.collect.result c.collect.ensures.ran
    (YieldsList-from_map_by _ raw_at (λ v. raw_part (raw_at v) c.args.index) (YieldsList-at c.map.ensures.source (YieldsList-from_slice vs (search rules))) c.map.ensures.closure (λ x r q k. search rules)))
