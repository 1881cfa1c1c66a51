use Rattle.std.proofs.Common.{arith}
use Rattle.std.proofs.lemmas.Grind.{common_steps}
use Rattle.vortex_dtype_fields.proofs.Choices.{at_places}
use borrow.Author.Differences.{ints}
use Rattle.vortex_dtype_fields.proofs.union_variants_ext.index_of_tag.Goals as goal

pub loop-place-init : goal.loop-place-init
loop-place-init c = grind (ints, arith, at_places)

pub offset_bounds-variants-place : goal.offset_bounds-variants-place
offset_bounds-variants-place c = grind (ints, arith, at_places)

pub bounds-variants-place : goal.bounds-variants-place
bounds-variants-place c = grind (ints, arith, at_places)

pub returns : goal.returns
returns c = grind (ints, arith, common_steps)
