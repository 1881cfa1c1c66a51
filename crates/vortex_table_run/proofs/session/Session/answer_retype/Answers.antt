use Rattle.std.proofs.Common.{Some, Err, refl, ap}
use Rattle.std.specs.Prelude.{option_map}
use Rattle.vortex_model_table.specs.Command.{retype}
use Rattle.vortex_model.specs.Refusal.{no_table}
use Rattle.vortex_model_table.specs.Reply.{refused}
use Rattle.vortex_dtype_core.specs.View.{type_of}
use Rattle.vortex_table_core.specs.TableView.{table_of}
use Rattle.vortex_table_run.specs.CommandAnswers.{error_answer}
use Rattle.vortex_table_run.specs.State.{table_in}
use Rattle.vortex_table_run.proofs.Errors.{no_rule}
use Rattle.vortex_table_run.proofs.Responding.{without_table, refused_for}
use Rattle.vortex_table_core.specs.Arrays.{arrays_of}
use Rattle.vortex_table_run.specs.Laying.{LaysOutPlain}
use Rattle.vortex_table_run.proofs.Laying.{table_stays, done_so}
use Rattle.vortex_table_run.proofs.session.Session.answer_retype.Goals as goal

pub returns-in_default-clause-answers : goal.returns-in_default-clause-answers
returns-in_default-clause-answers c = λ out.
    let none = ap (option_map table_of) c.in_default.is in
    (refused no_table, without_table (table_in c.args.self.now) (retype (type_of c.args.dtype)) none refl, c.without_table.ensures)

pub returns-in-Err-clause-answers : goal.returns-in-Err-clause-answers
returns-in-Err-clause-answers c = λ out.
    let e = c.in-Err.error in
    let there = ap (option_map table_of) c.in-Some.is in
    let same = ap (λ t. Some (table_of t)) c.in-Err.ensures.unchanged in (
      error_answer e,
      refused_for _ (table_in c.args.self.now) (Some (table_of c.retype.new.self)) (table_of c.in-Some.table) (retype (type_of c.args.dtype)) e there same
          (λ h. h) c.in-Err.ensures.refused (λ h. c.in-Err.ensures.total (ap Err h)),
      c.fault.ensures.said out (no_rule _ _ e c.in-Err.ensures.refused),
    )

pub returns-in-Err-clause-layout : goal.returns-in-Err-clause-layout
returns-in-Err-clause-layout c =
    table_stays c.fault.result (LaysOutPlain c.args.self.now.table (type_of c.args.dtype)) c.args.self.now.table c.in-Some.table c.retype.new.self c.in-Some.is c.fault.ensures.refused c.in-Err.ensures.unchanged

pub returns-in-Ok-clause-layout : goal.returns-in-Ok-clause-layout
returns-in-Ok-clause-layout c =
    done_so (λ o. LaysOutPlain o (type_of c.args.dtype)) c.args.self.now.table c.in-Some.table c.retype.new.self c.in-Some.is (λ same. ap arrays_of (c.retype.ensures.equal same), c.in-Ok.ensures.layout)
