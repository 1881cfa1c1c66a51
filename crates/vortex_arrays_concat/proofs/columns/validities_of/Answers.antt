use Rattle.vortex_arrays_concat.proofs.ColumnLemmas.{more_held}
use Rattle.vortex_arrays_concat.proofs.columns.validities_of.Goals as goal

pub loop-array-preserved : goal.loop-array-preserved
loop-array-preserved c =
    more_held c.args.arrays.now c.loop-array.array-index c.array-item.result (c.in_ok-validity.validity, c.len.result) c.loop-array.parts.items c.push.new.self.items
    c.loop-array.invariant c.loop-array-test.true c.array-item.is c.len.ensures.sound c.in_ok-validity.ensures c.len.ensures.count c.in_ok-push.ensures.items
