use Rattle.std.proofs.Common.{◌≡◌, ℕ, drop, length}
use Rattle.vortex_table_io.specs.Blocks.{left_in}
use Rattle.vortex_table_select.specs.Selected.{AreOfType}
use Rattle.vortex_table_core.specs.Plan.{table_in, answer_by}
use Rattle.vortex_table_core.proofs.Ranges.{Waiting}
use Rattle.vortex_table_core.proofs.plan.Scan.add_groups.Given as goal

abbrev pub invariant-loop-group : goal.invariant-loop-group
invariant-loop-group l = record {
  index : ℕ;
  left : left_in l.groups ≡ drop index l.self.table.now.groups;
  waiting : Waiting l.self index l.first l.count (answer_by l.self l.answer);
  typed : AreOfType (table_in l.self).kind l.answer.selections.items;
}

abbrev pub decreases-loop-group : goal.decreases-loop-group
decreases-loop-group l = length (left_in l.groups)
