use Rattle.std.proofs.Common.{length, refl, sym, ◌∙◌}
use Rattle.vortex_arrays_core.specs.LayoutOf.{valid_of}
use Rattle.vortex_arrays_builder.proofs.IntegerLemmas.{room, place_read}
use Rattle.vortex_arrays_builder.proofs.integers.read_by_row.Goals as goal

pub item_at-item-requires-clause-within : goal.item_at-item-requires-clause-within
item_at-item-requires-clause-within g c = λ t.
    room (valid_of c.args.validity.now) c.loop-i.i c.args.rows c.args.width c.loop-i.start (length c.args.bytes.now) (sym c.is_valid.ensures ∙ t) c.loop-i-test.true c.loop-i.invariant.read.start_is c.requires.whole

pub loop-i-preserved : goal.loop-i-preserved
loop-i-preserved g c =
    place_read g.T.Sealed.kind g.T.Sealed.integer c.args.width (valid_of c.args.validity.now) c.args.bytes.now c.loop-i.items.items _ c.args.rows c.loop-i.i c.loop-i.start c.item_at-item.result.1 c.item_at-item.result.0 c.is_valid.result
    c.loop-i.invariant refl c.loop-i-test.true c.is_valid.ensures c.item_at-item.ensures.item c.item_at-item.ensures.null c.item_at-item.ensures.next
