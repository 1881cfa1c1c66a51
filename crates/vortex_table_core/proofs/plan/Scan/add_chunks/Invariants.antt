use Rattle.std.proofs.Common.{◌≡◌, ◌≤◌, ◌+◌, ◌-◌, drop, length}
use Rattle.vortex_table_select.specs.Selected.{AreOfType}
use Rattle.vortex_table_core.specs.Plan.{table_in, answer_by}
use Rattle.vortex_table_core.specs.Progress.{IsCounted}
use Rattle.vortex_table_core.proofs.Groups.{ahead}
use Rattle.vortex_table_core.proofs.plan.Scan.add_chunks.Given as goal

abbrev pub invariant-loop-offset : goal.invariant-loop-offset
invariant-loop-offset l = record {
  within : l.offset ≤ length l.chunks;
  left : ahead l.self (l.first + l.offset) (drop l.offset l.chunks) (answer_by l.self l.answer) ≡ ahead l.self l.first l.chunks (answer_by l.self l.fn.answer);
  counted : IsCounted (answer_by l.self l.answer);
  typed : AreOfType (table_in l.self).kind l.answer.selections.items;
}

abbrev pub decreases-loop-offset : goal.decreases-loop-offset
decreases-loop-offset l = length l.chunks - l.offset
