use Rattle.std.proofs.Common.{◌≡◌, map, arith}
use Rattle.vortex_arrays_model.specs.Layout.{numbers, required, content_at, number_in}
use Rattle.vortex_arrays_nested.proofs.BoundsLemmas.{more_elements}
use Rattle.vortex_arrays_nested.proofs.ReachLemmas.{item_number}
use Rattle.vortex_arrays_nested.proofs.reach.items_total.Goals as goal

pub loop-i-preserved : goal.loop-i-preserved
loop-i-preserved g c =
    let s = numbers g.T.Sealed.kind (map g.T.Sealed.integer c.args.sizes.now) required in
    let size : c.natural_of.result ≡ number_in (content_at s c.loop-i.i) = item_number g.T.Sealed.integer g.T.Sealed.kind c.args.sizes.now c.loop-i.i c.index-sizes-i.result c.natural_of.result c.loop-i-test.true c.index-sizes-i.is c.natural_of.ensures in
    let step = more_elements s c.loop-i.i c.loop-i.total c.natural_of.result c.loop-i.invariant size in
    omega (arith, step)
