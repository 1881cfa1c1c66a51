use Rattle.std.proofs.Common.{◌*◌, ◌∙◌, length, ap, refl, sym}
use Rattle.vortex_arrays_model.specs.Layout.{bools, required, by_array}
use Rattle.vortex_arrays_builder.specs.Integers.{valid_before}
use Rattle.vortex_arrays_builder.proofs.IntegerLemmas.{room, place_read}
use Rattle.vortex_arrays_builder.proofs.integers.read_where.Goals as goal

pub item_at-item-requires-clause-within : goal.item_at-item-requires-clause-within
item_at-item-requires-clause-within g c = λ t.
    room (by_array (bools c.args.bits.now required)) c.loop-i.i c.len-rows.result c.args.width c.loop-i.start (length c.args.bytes.now)
    (sym c.value.ensures ∙ t) c.loop-i-test.true c.loop-i.invariant.read.start_is
    (c.requires.whole ∙ ap (λ n. valid_before (by_array (bools c.args.bits.now required)) n * c.args.width) (sym c.len-rows.ensures))

pub loop-i-preserved : goal.loop-i-preserved
loop-i-preserved g c =
    place_read g.T.Sealed.kind g.T.Sealed.integer c.args.width (by_array (bools c.args.bits.now required)) c.args.bytes.now c.loop-i.items.items _ c.len-rows.result c.loop-i.i c.loop-i.start c.item_at-item.result.1 c.item_at-item.result.0 c.value.result
    c.loop-i.invariant refl c.loop-i-test.true c.value.ensures c.item_at-item.ensures.item c.item_at-item.ensures.null c.item_at-item.ensures.next
