use Rattle.std.proofs.Common.{◌*◌, ◌∙◌, map, length, ap, refl, arith}
use Rattle.vortex_arrays_model.specs.Layout.{required}
use Rattle.vortex_arrays_builder.proofs.IntegerLemmas.{each_counted, room, place_read, places_read, stand_alike}
use Rattle.vortex_arrays_builder.proofs.integers.read_each.Goals as goal

pub item_at-item-requires-clause-within : goal.item_at-item-requires-clause-within
item_at-item-requires-clause-within g c = λ t.
    room required c.loop-i.i c.args.rows c.args.width c.loop-i.start (length c.args.bytes.now) refl c.loop-i-test.true c.loop-i.invariant.read.start_is
    (c.requires.whole ∙ ap (λ n. n * c.args.width) (each_counted c.args.rows))

pub loop-i-preserved : goal.loop-i-preserved
loop-i-preserved g c =
    place_read g.T.Sealed.kind g.T.Sealed.integer c.args.width required c.args.bytes.now c.loop-i.items.items _ c.args.rows c.loop-i.i c.loop-i.start c.item_at-item.result.1 c.item_at-item.result.0 _
    c.loop-i.invariant refl c.loop-i-test.true refl c.item_at-item.ensures.item c.item_at-item.ensures.null c.item_at-item.ensures.next

pub returns-clause-values : goal.returns-clause-values
returns-clause-values g c =
    stand_alike g.T.Sealed.kind c.args.width c.args.bytes.now (map g.T.Sealed.integer c.loop-i.items.items)
    (places_read g.T.Sealed.kind g.T.Sealed.integer c.args.width required c.args.bytes.now c.loop-i.items.items c.args.rows c.loop-i.i c.loop-i.start c.loop-i.invariant (omega (arith, c.loop-i-test.false)))
