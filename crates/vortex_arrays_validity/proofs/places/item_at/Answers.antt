use Rattle.vortex_arrays_validity.proofs.PlaceLemmas.{item_there}
use Rattle.vortex_arrays_validity.proofs.places.item_at.Goals as goal

pub returns-then-i-items : goal.returns-then-i-items
returns-then-i-items g c =
    item_there c.args.none g.T.Sealed.integer c.args.items.now c.args.i c.number_or.result
    c.index-items-i.result c.if-i-items.true c.index-items-i.is c.number_or.ensures
