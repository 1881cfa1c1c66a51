use Rattle.std.proofs.Common.{sym, ap, subst, List, ℕ, length, Contains, ◌↔◌}
use Rattle.vortex_model_table.specs.Class.{Hopeless}
use Rattle.vortex_model_table.specs.Scan.{ScanAnswer}
use Rattle.vortex_table.specs.ModelLawsExact.{box_of_chunk}
use Rattle.vortex_table_core.specs.TableView.{table_of}
use Rattle.vortex_table_core.proofs.Tables.{is_table}
use Rattle.example_planner.proofs.plan.chunks_to_leave_out.Goals as goal

pub returns-clause-skipped : goal.returns-clause-skipped
returns-clause-skipped c = ap (λ (a : ScanAnswer). a.skipped) c.in_ok-seen.ensures.found

pub returns-clause-hopeless : goal.returns-clause-hopeless
returns-clause-hopeless c = λ before chunk after wide split bounded.
    subst (λ (left : List ℕ). Contains left (length before) ↔ Hopeless (table_of c.args.table.now).kind c.args.predicate.now (box_of_chunk (table_of c.args.table.now) chunk))
    (sym (ap (λ (a : ScanAnswer). a.skipped) c.in_ok-seen.ensures.found))
    (c.exactly_the_hopeless_are_skipped.ensures (table_of c.args.table.now) c.args.predicate.now before chunk after (is_table c.args.table.now)
    (record { faultless = c.in_ok-seen.ensures.accepted; formed = c.in_ok-seen.ensures.formed }) wide split bounded)
