use Rattle.std.proofs.Common.{◌≡◌, ◌-◌, pos, rules, length, get_or, map, refl, sym, subst, arith}
use Rattle.std.specs.Result.{IfOk}
use Rattle.std.proofs.lemmas.Iterator.{YieldsList-from_range, YieldsList-from_map_by}
use Rattle.std.proofs.lemmas.Iterator.Consumers.{map_from_collect, YieldsList-at}
use Rattle.vortex_arrays_rebuild.proofs.TrimLemmas.{lowered_by_place}
use Rattle.vortex_arrays_rebuild.proofs.trim.lower_each.Goals as goal

pub returns : goal.returns
returns g c =
    let xs = c.args.starts.now in
    subst (λ zs. IfOk c.collect.result (λ lowered. map g.T.Sealed.integer lowered.items ≡ zs)) (sym (lowered_by_place xs c.args.by))
    (map_from_collect c.collect.result c.collect.ensures.ran
    (YieldsList-from_map_by _ g.T.Sealed.integer (λ i. pos (get_or xs i 0 - c.args.by)) (YieldsList-at c.map.ensures.source (YieldsList-from_range 0 (length xs) (length xs) (search rules) (omega arith))) c.map.ensures.closure (λ x r q k. search rules)))
