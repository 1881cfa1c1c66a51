use Rattle.example_planner.proofs.LeftOut.{AreMarked}
use Rattle.example_planner.proofs.plan.marks_of.Given as goal

abbrev pub invariant-loop-number : goal.invariant-loop-number
invariant-loop-number l = AreMarked l.left_out l.number-index l.count l.marks.items
