use Rattle.std.proofs.Common.{◌≡◌, subst, sym, rules, map}
use Rattle.std.specs.Result.{IfOk}
use Rattle.std.proofs.lemmas.Iterator.{YieldsList-from_slice, YieldsList-from_map_by}
use Rattle.std.proofs.lemmas.Iterator.Consumers.{map_from_collect, YieldsList-at}
use Rattle.std.proofs.lemmas.Simd.{map-map}
use Rattle.vortex_arrays_dictionary.specs.Narrowed.{held_or_zero}
use Rattle.vortex_arrays_dictionary.proofs.cast.cast_items.Goals as goal

pub returns : goal.returns
returns g c =
    subst (λ zs. IfOk c.collect.result (λ cast. map g.U.Sealed.integer cast.items ≡ zs)) (sym (map-map (held_or_zero g.U.Sealed.kind) g.T.Sealed.integer c.args.items.now))
    (map_from_collect c.collect.result c.collect.ensures.ran
    (YieldsList-from_map_by _ g.U.Sealed.integer (λ x. held_or_zero g.U.Sealed.kind (g.T.Sealed.integer x)) (YieldsList-at c.map.ensures.source (YieldsList-from_slice c.args.items.now (search rules))) c.map.ensures.closure (λ x r q k. search rules)))
