use Rattle.std.proofs.Common.{map, Some, Err, refl, ap}
use Rattle.std.specs.Prelude.{option_map}
use Rattle.vortex_model_table.specs.Command.{append}
use Rattle.vortex_model.specs.Refusal.{no_table}
use Rattle.vortex_model_table.specs.Reply.{refused}
use Rattle.vortex_dtype_core.specs.View.{type_of}
use Rattle.vortex_scalar_value.specs.View.{raw_in}
use Rattle.vortex_table_core.specs.TableView.{table_of}
use Rattle.vortex_table_run.specs.CommandAnswers.{error_answer}
use Rattle.vortex_table_run.specs.State.{table_in}
use Rattle.vortex_table_run.proofs.Errors.{no_rule}
use Rattle.vortex_table_run.proofs.Responding.{without_table, refused_for}
use Rattle.vortex_table_layout.specs.Hinted.{HasHintedColumns}
use Rattle.vortex_table_core.specs.Arrays.{AddsArray}
use Rattle.vortex_table_run.proofs.Laying.{chunks_stay, done_so}
use Rattle.vortex_table_run.proofs.session.Session.answer_append.Goals as goal

pub returns-in_default-clause-answers : goal.returns-in_default-clause-answers
returns-in_default-clause-answers c = λ out.
    let none = ap (option_map table_of) c.in_default.is in
    let command = append (type_of c.args.dtype.now) (map raw_in c.args.values.items) in
    (refused no_table, without_table (table_in c.args.self.now) command none refl, c.without_table.ensures)

pub returns-in-Err-clause-answers : goal.returns-in-Err-clause-answers
returns-in-Err-clause-answers c = λ out.
    let e = c.in-Err.error in
    let there = ap (option_map table_of) c.in-Some.is in
    let same = ap Some c.in-Err.ensures.appends.unchanged in (
      error_answer e,
      refused_for _ (table_in c.args.self.now) (Some (table_of c.append_owned.new.self)) (table_of c.in-Some.table)
          (append (type_of c.args.dtype.now) (map raw_in c.args.values.items)) e there same (λ h. h) c.in-Err.ensures.appends.refused
          (λ h. c.in-Err.ensures.appends.total (ap Err h)),
      c.fault.ensures.said out (no_rule _ _ e c.in-Err.ensures.appends.refused),
    )

pub returns-in-Ok-clause-layout : goal.returns-in-Ok-clause-layout
returns-in-Ok-clause-layout c =
    done_so (λ _. AddsArray (HasHintedColumns c.args.layouts.now)) c.args.self.now.table c.in-Some.table c.append_owned.new.self c.in-Some.is c.in-Ok.ensures.layout

pub returns-in-Err-clause-layout : goal.returns-in-Err-clause-layout
returns-in-Err-clause-layout c =
    let stays = c.in-Err.ensures.unchanged in
    chunks_stay c.fault.result (AddsArray (HasHintedColumns c.args.layouts.now)) c.args.self.now.table c.in-Some.table c.append_owned.new.self c.in-Some.is c.fault.ensures.refused stays.chunks
