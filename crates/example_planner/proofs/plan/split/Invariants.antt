use Rattle.std.proofs.Common.{map}
use Rattle.vortex_table_core.specs.TableView.{table_of}
use Rattle.example_planner.proofs.Shares.{AreShared}
use Rattle.example_planner.proofs.plan.split.Given as goal

abbrev pub invariant-loop-index : goal.invariant-loop-index
invariant-loop-index l = AreShared (table_of l.table) l.left_out l.workers l.index (map table_of l.parts.items) (table_of l.part)
