use Rattle.std.proofs.Common.{arith}
use Rattle.std.proofs.lemmas.Grind.{common_steps}
use Rattle.vortex_arrays_nested.proofs.list_view.ListViewArray.with_zero_copy_to_list.Goals as goal

pub same-of_list_views : goal.same-of_list_views
same-of_list_views c = grind (arith, common_steps)

pub same-of_list_views-2 : goal.same-of_list_views-2
same-of_list_views-2 c = grind (arith, common_steps)

pub same-of_list_views-3 : goal.same-of_list_views-3
same-of_list_views-3 c = grind (arith, common_steps)

pub invariant_of-result : goal.invariant_of-result
invariant_of-result c = grind (arith, common_steps)
