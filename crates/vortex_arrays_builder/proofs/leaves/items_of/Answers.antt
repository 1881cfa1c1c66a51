use Rattle.std.proofs.Common.{◌≡◌, subst, sym, rules, map}
use Rattle.std.specs.Result.{IfOk}
use Rattle.std.proofs.lemmas.Iterator.{YieldsList-from_slice, YieldsList-from_map_by}
use Rattle.std.proofs.lemmas.Iterator.Consumers.{map_from_collect, YieldsList-at}
use Rattle.std.proofs.lemmas.Simd.{map-map}
use Rattle.vortex_scalar_value.specs.View.{raw_at}
use Rattle.vortex_arrays_builder.specs.Plain.{whole_or_zero}
use Rattle.vortex_arrays_builder.proofs.leaves.items_of.Goals as goal

pub returns : goal.returns
returns g c =
    subst (λ zs. IfOk c.collect.result (λ items. map g.T.Sealed.integer items.items ≡ zs)) (sym (map-map whole_or_zero raw_at c.args.values.now))
    (map_from_collect c.collect.result c.collect.ensures.ran
    (YieldsList-from_map_by _ g.T.Sealed.integer (λ v. whole_or_zero (raw_at v)) (YieldsList-at c.map.ensures.source (YieldsList-from_slice c.args.values.now (search rules))) c.map.ensures.closure (λ x r q k. search rules)))
