use Rattle.std.proofs.Common.{◌≤◌, ◌-◌, length}
use Rattle.vortex_table_core.specs.Truths.{AreTrue}
use Rattle.vortex_table_core.proofs.run.past_true.Given as goal

abbrev pub invariant-loop-at : goal.invariant-loop-at
invariant-loop-at l = record {
  order : l.from ≤ l.at;
  within : l.at ≤ length l.truths;
  truths : AreTrue l.truths l.from l.at;
}

abbrev pub decreases-loop-at : goal.decreases-loop-at
decreases-loop-at l = length l.truths - l.at

abbrev pub invariant-loop-at-2 : goal.invariant-loop-at-2
invariant-loop-at-2 l = record {
  order : l.from ≤ l.at;
  within : l.at ≤ length l.truths;
  truths : AreTrue l.truths l.from l.at;
}

abbrev pub decreases-loop-at-2 : goal.decreases-loop-at-2
decreases-loop-at-2 l = length l.truths - l.at
