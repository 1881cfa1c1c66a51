use Rattle.std.proofs.Common.{arith}
use Rattle.std.proofs.lemmas.Grind.{common_steps}
use Rattle.vortex_dtype_core.proofs.union_variants.has_repeated.Goals as goal

pub loop-i-init : goal.loop-i-init
loop-i-init c = grind (arith, common_steps)

pub bounds-tags-i : goal.bounds-tags-i
bounds-tags-i c = grind (arith, common_steps)

pub overflow_add-i : goal.overflow_add-i
overflow_add-i c = grind (arith, common_steps)

pub slice_bounds-contains-count : goal.slice_bounds-contains-count
slice_bounds-contains-count c = grind (arith, common_steps)

pub slice_bounds-contains-start : goal.slice_bounds-contains-start
slice_bounds-contains-start c = grind (arith, common_steps)

pub slice_bounds-contains-end : goal.slice_bounds-contains-end
slice_bounds-contains-end c = grind (arith, common_steps)

pub returns-then-contains : goal.returns-then-contains
returns-then-contains c = grind (arith, common_steps)

pub loop-i-preserved : goal.loop-i-preserved
loop-i-preserved c = grind (arith, common_steps)

pub returns : goal.returns
returns c = grind (arith, common_steps)
