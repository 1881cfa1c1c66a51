use Rattle.vortex_table_run.proofs.Exact.{on_ok, on_err, if_err, all_exact, part_exact, whole_exact}
use Rattle.vortex_table_run.proofs.commands.run.Goals as goal

pub returns-clause-ok : goal.returns-clause-ok
returns-clause-ok g c =
    on_ok c.run_lines.result (λ all. all_exact c.steps_keep_tables.ensures c.exactly_the_hopeless_are_skipped.ensures _
    c.new-session.ensures _ _ _ _ _ all) c.run_lines.ensures.ok

pub returns-clause-part : goal.returns-clause-part
returns-clause-part g c =
    on_err c.run_lines.result (λ part. part_exact c.steps_keep_tables.ensures c.exactly_the_hopeless_are_skipped.ensures _
    c.new-session.ensures _ _ _ _ part) c.run_lines.ensures.part

pub returns-clause-answered : goal.returns-clause-answered
returns-clause-answered g c =
    if_err c.run_lines.result (λ e whole not. whole_exact c.steps_keep_tables.ensures c.exactly_the_hopeless_are_skipped.ensures _
    c.new-session.ensures _ _ _ _ (whole not)) c.run_lines.ensures.answered
