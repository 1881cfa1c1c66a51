use Rattle.std.proofs.Common.{arith}
use Rattle.std.proofs.lemmas.Grind.{common_steps}
use Rattle.vortex_dtype_fields.proofs.Choices.{in_order}
use borrow.Author.Differences.{ints}
use Rattle.vortex_dtype_fields.proofs.union_variants_ext.are_counted.Goals as goal

pub loop-place-init : goal.loop-place-init
loop-place-init c = grind (ints, arith, in_order)

pub offset_bounds-variants-place : goal.offset_bounds-variants-place
offset_bounds-variants-place c = grind (ints, arith, in_order)

pub bounds-variants-place : goal.bounds-variants-place
bounds-variants-place c = grind (ints, arith, in_order)

pub returns : goal.returns
returns c = grind (ints, arith, common_steps)
