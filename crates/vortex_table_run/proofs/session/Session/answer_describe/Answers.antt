use Rattle.std.proofs.Common.{refl, ap}
use Rattle.std.specs.Prelude.{option_map}
use Rattle.vortex_model_table.specs.Command.{describe}
use Rattle.vortex_model.specs.Refusal.{no_table}
use Rattle.vortex_model_table.specs.Reply.{refused, described}
use Rattle.vortex_dtype_path.specs.View.{steps_of}
use Rattle.vortex_table_core.specs.TableView.{table_of}
use Rattle.vortex_table_run.specs.CommandAnswers.{error_answer}
use Rattle.vortex_table_run.specs.State.{table_in}
use Rattle.vortex_table_run.proofs.Errors.{no_rule}
use Rattle.vortex_table_run.proofs.Responding.{without_table, refused_there, describe_found}
use Rattle.vortex_table_run.proofs.session.Session.answer_describe.Goals as goal

pub returns-in_default-clause-answers : goal.returns-in_default-clause-answers
returns-in_default-clause-answers c =
    let none = ap (option_map table_of) c.in_default.is in
    (refused no_table, without_table (table_in c.args.self.now) (describe (steps_of c.args.path.now) c.args.group) none refl, c.without_table.ensures)

pub returns-in-Ok-write_described-clause-answers : goal.returns-in-Ok-write_described-clause-answers
returns-in-Ok-write_described-clause-answers c =
    let there = ap (option_map table_of) c.in-Some.is in
    let found = c.in-Ok.ensures.described in (
      described found.0,
      describe_found (table_in c.args.self.now) (table_of c.in-Some.table) (steps_of c.args.path.now) c.args.group found.0 there c.in-Ok.ensures.accepted found.1,
      c.in-Ok-write_described.ensures found.0 found.2,
    )

pub returns-clause-answers : goal.returns-clause-answers
returns-clause-answers c =
    let e = c.in-Err.error in
    let there = ap (option_map table_of) c.in-Some.is in (
      error_answer e,
      refused_there (table_in c.args.self.now) (table_in c.args.self.now) (table_of c.in-Some.table) (describe (steps_of c.args.path.now) c.args.group) e
          there there c.in-Err.ensures.refused,
      c.fault.ensures.said _ (no_rule _ _ e c.in-Err.ensures.refused),
    )
