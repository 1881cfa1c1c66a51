use Rattle.std.proofs.Common.{◌≡◌, ◌∙◌, rules, Some, map, ap, subst}
use Rattle.std.specs.List.{slice_get}
use Rattle.std.specs.Result.{IfOk}
use Rattle.std.proofs.lemmas.Iterator.{YieldsList-from_slice, YieldsList-from_map_by}
use Rattle.std.proofs.lemmas.Iterator.Consumers.{map_from_collect, YieldsList-at}
use Rattle.std.proofs.lemmas.Result.{IfOk-weaker}
use Rattle.vortex_arrays_buffer.proofs.buffer.Buffer.gather.Goals as goal

pub returns : goal.returns
returns g c =
    let mine = c.as_slice-mine.result.now in
    let places = c.args.places.now in
    let read : IfOk c.collect.result (λ items. map Some items.items ≡ map (slice_get mine) places) =
    map_from_collect c.collect.result c.collect.ensures.ran
    (YieldsList-from_map_by _ Some (slice_get mine) (YieldsList-at c.map.ensures.source (YieldsList-from_slice places (search rules))) c.map.ensures.closure (λ x r q k. search rules)) in
    let here : map Some c.in_ok-items.items.items ≡ map (slice_get mine) places =
    subst (λ r. IfOk r (λ items. map Some items.items ≡ map (slice_get mine) places)) c.in_ok-items.was read in
    IfOk-weaker c.from_vec.result _ _ (λ b is. ap (map Some) is ∙ here ∙ ap (λ xs. map (slice_get xs) places) c.as_slice-mine.ensures) c.from_vec.ensures
