use Rattle.std.proofs.Common.{arith}
use Rattle.std.proofs.lemmas.Grind.{common_steps}
use Rattle.vortex_arrays_nested.proofs.list_view.ListViewArray.try_new.Goals as goal

pub same-elements : goal.same-elements
same-elements c = grind (arith, common_steps)

pub same-offsets : goal.same-offsets
same-offsets c = grind (arith, common_steps)

pub same-sizes : goal.same-sizes
same-sizes c = grind (arith, common_steps)
