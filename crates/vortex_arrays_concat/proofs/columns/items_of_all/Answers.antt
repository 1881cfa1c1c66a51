use Rattle.vortex_arrays_concat.proofs.ColumnLemmas.{more_numbers}
use Rattle.vortex_arrays_concat.proofs.columns.items_of_all.Goals as goal

pub loop-array-preserved : goal.loop-array-preserved
loop-array-preserved g c =
    more_numbers g.T.Sealed.integer g.T.Sealed.kind c.args.arrays.now c.loop-array.array-index c.array-item.result c.loop-array.all.items c.in-Some.items.now c.extend_from_slice.new.self.items
    c.loop-array.invariant c.loop-array-test.true c.array-item.is c.in-Some.ensures.kind c.in-Some.ensures.numbers c.in_ok-extend_from_slice-in-Some.ensures.items
