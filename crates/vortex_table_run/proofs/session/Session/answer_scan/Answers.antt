use Rattle.std.proofs.Common.{map, refl, ap}
use Rattle.std.specs.Prelude.{option_map}
use Rattle.vortex_model_table.specs.Command.{scan}
use Rattle.vortex_model.specs.Refusal.{no_table}
use Rattle.vortex_model_table.specs.Reply.{refused, found}
use Rattle.vortex_dtype_path.specs.View.{steps_of}
use Rattle.vortex_table_select.specs.Selected.{answer_in}
use Rattle.vortex_table_core.specs.TableView.{table_of}
use Rattle.vortex_table_run.specs.CommandAnswers.{error_answer}
use Rattle.vortex_table_run.specs.State.{table_in}
use Rattle.vortex_table_run.proofs.Errors.{no_rule}
use Rattle.vortex_table_run.proofs.Responding.{without_table, refused_there, scan_found}
use Rattle.vortex_table_run.proofs.session.Session.answer_scan.Goals as goal

pub returns-in_default-clause-answers : goal.returns-in_default-clause-answers
returns-in_default-clause-answers c =
    let none = ap (option_map table_of) c.in_default.is in
    let command = scan (map steps_of c.args.paths.now) c.args.predicate.now in
    (refused no_table, without_table (table_in c.args.self.now) command none refl, c.without_table.ensures)

pub returns-in-Ok-write_found-clause-answers : goal.returns-in-Ok-write_found-clause-answers
returns-in-Ok-write_found-clause-answers c =
    let there = ap (option_map table_of) c.in-Some.is in (
      found (answer_in c.in-Ok.answer),
      scan_found (table_in c.args.self.now) (table_of c.in-Some.table) (map steps_of c.args.paths.now) c.args.predicate.now (answer_in c.in-Ok.answer)
          there c.in-Ok.ensures.accepted c.in-Ok.ensures.found,
      c.in-Ok-write_found.ensures,
    )

pub returns-clause-answers : goal.returns-clause-answers
returns-clause-answers c =
    let e = c.in-Err.error in
    let there = ap (option_map table_of) c.in-Some.is in (
      error_answer e,
      refused_there (table_in c.args.self.now) (table_in c.args.self.now) (table_of c.in-Some.table) (scan (map steps_of c.args.paths.now) c.args.predicate.now) e
          there there c.in-Err.ensures.refused,
      c.fault.ensures.said _ (no_rule _ _ e c.in-Err.ensures.refused),
    )
