use Rattle.std.proofs.Common.{◌∙◌}
use Rattle.vortex_arrays_concat.proofs.ColumnLemmas.{more_bits}
use Rattle.vortex_arrays_concat.proofs.columns.bits_of_all.Goals as goal

pub loop-array-preserved : goal.loop-array-preserved
loop-array-preserved c =
    more_bits c.args.arrays.now c.loop-array.array-index c.array-item.result c.loop-array.all.items c.deref.result.now c.extend_from_slice.new.self.items
    c.loop-array.invariant c.loop-array-test.true c.array-item.is c.in-Some.ensures.kind (c.deref.ensures.value ∙ c.in_ok-to_bools-in-Some.ensures ∙ c.in-Some.ensures.bits) c.in_ok-extend_from_slice-in-Some.ensures.items
