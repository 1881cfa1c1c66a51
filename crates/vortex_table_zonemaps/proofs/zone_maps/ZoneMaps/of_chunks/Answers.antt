use Rattle.std.proofs.Common.{◌≡◌, sym, ap, subst, ◌∙◌, ◌++◌, ◌∷◌, [], length, map, take, drop, arith}
use Rattle.std.proofs.lemmas.List.{length-map, length-take, map_more, take_all}
use Rattle.vortex_table_zonemaps.specs.Stats.{zone_of}
use Rattle.vortex_table_zonemaps.specs.Zones.{AreZoneMaps}
use Rattle.vortex_table_zonemaps.proofs.zone_maps.ZoneMaps.of_chunks.Goals as goal

pub loop-index-preserved : goal.loop-index-preserved
loop-index-preserved c =
    let chunks = c.args.chunks.now in let i = c.loop-index.index in let chunk = c.index-chunks-index.result in let front = map zone_of (take i chunks) in
    let inside = c.loop-index-test.true in
    let many : length front ≡ i = (let mapped = length-map (take i chunks) zone_of in let taken = length-take i chunks in omega (arith, mapped, taken, inside)) in
    subst (AreZoneMaps c.put.new.self)
    ((λ j. front ++ (c.deref.ensures.value j, c.len.ensures.count j) ∷ []) ∙ ap (λ x. front ++ zone_of x ∷ []) c.index-chunks-index.is ∙ sym (map_more zone_of chunks i chunk inside))
    (c.in_ok-put.ensures.put front many c.loop-index.invariant)

pub returns : goal.returns
returns c =
    subst (λ cs. AreZoneMaps c.loop-index.maps (map zone_of cs)) (take_all c.loop-index.index c.args.chunks.now (let h = c.loop-index-test.false in omega (arith, h))) c.loop-index.invariant
