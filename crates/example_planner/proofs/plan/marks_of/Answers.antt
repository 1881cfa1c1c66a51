use Rattle.example_planner.proofs.LeftOut.{unmarked, all_marked}
use Rattle.example_planner.proofs.plan.marks_of.Goals as goal

pub loop-number-init : goal.loop-number-init
loop-number-init c = unmarked c.args.left_out.now c.args.count c.in_ok-marks.marks.items (c.in_ok-marks.ensures.items_if_clones_equal (λ y h. h))

pub returns : goal.returns
returns c = all_marked c.args.left_out.now c.loop-number.number-index c.args.count c.loop-number.marks.items c.loop-number-test.false c.loop-number.invariant
