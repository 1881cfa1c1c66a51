use Rattle.vortex_table_core.specs.TableView.{table_of}
use Rattle.example_planner.proofs.Shares.{AreCounted}
use Rattle.example_planner.proofs.plan.kept_rows.Given as goal

abbrev pub invariant-loop-index : goal.invariant-loop-index
invariant-loop-index l = AreCounted (table_of l.table).chunks l.marks l.index l.rows
