use Rattle.std.proofs.Common.{Some, Err, refl, sym, subst, ap, ◌∙◌}
use Rattle.std.specs.Prelude.{option_map}
use Rattle.vortex_model_table.specs.Command.{append, append_array}
use Rattle.vortex_model.specs.Refusal.{no_table}
use Rattle.vortex_model_table.specs.Reply.{refused, accepted, RespondsTo}
use Rattle.vortex_arrays_model.specs.Layout.{array_type_of, rows_of}
use Rattle.vortex_table_schema.specs.Error.{Explains}
use Rattle.vortex_table_core.specs.TableView.{table_of}
use Rattle.vortex_table_core.specs.Totals.{PassesTotal}
use Rattle.vortex_table_request.specs.View.{raw_rows}
use Rattle.vortex_table_run.specs.CommandAnswers.{error_answer}
use Rattle.vortex_table_run.specs.State.{table_in}
use Rattle.vortex_table_run.proofs.ArrayRows.{same_refusal, same_after, same_total, appended_so}
use Rattle.vortex_table_run.proofs.Errors.{no_rule}
use Rattle.vortex_table_run.proofs.Responding.{without_table, refused_for}
use Rattle.vortex_table_run.specs.Laying.{AddsTaken}
use Rattle.vortex_table_run.proofs.Laying.{chunks_stay, done_so}
use Rattle.vortex_table_run.proofs.session.Session.answer_append_array.Goals as goal

pub returns-in_default-clause-answers : goal.returns-in_default-clause-answers
returns-in_default-clause-answers c = λ out.
    let none = ap (option_map table_of) c.in_default.is in
    let command = append (array_type_of c.args.array) (raw_rows c.args.array) in
    (refused no_table, without_table (table_in c.args.self.now) command none refl, c.without_table.ensures)

pub returns-in-Ok-clause-answers : goal.returns-in-Ok-clause-answers
returns-in-Ok-clause-answers c = λ out.
    let a = c.args.array in
    let t = table_of c.in-Some.table in
    let there = ap (option_map table_of) c.in-Some.is in
    let refusal = same_refusal c.tests_of_validity_are_right.ensures t a c.len-rows.ensures.sound in (
      accepted,
      appended_so (table_in c.args.self.now) t (table_of c.append_hinted.new.self) (append (array_type_of a) (raw_rows a)) there (sym refusal ∙ c.in-Ok.ensures.appends.accepted)
          refl (ap Some (c.in-Ok.ensures.appends.appended ∙ same_after t a)),
      refl,
    )

pub returns-in-Err-clause-answers : goal.returns-in-Err-clause-answers
returns-in-Err-clause-answers c = λ out.
    let e = c.in-Err.error in
    let a = c.args.array in
    let t = table_of c.in-Some.table in
    let there = ap (option_map table_of) c.in-Some.is in
    let same = ap Some c.in-Err.ensures.appends.unchanged in
    let refusal = same_refusal c.tests_of_validity_are_right.ensures t a c.len-rows.ensures.sound in
    let total = PassesTotal (Some t) (append_array (array_type_of a) (rows_of a)) in
    let why = subst (λ fault. Explains total fault e) refusal c.in-Err.ensures.appends.refused in (
      error_answer e,
      refused_for total (table_in c.args.self.now) (Some (table_of c.append_hinted.new.self)) t (append (array_type_of a) (raw_rows a)) e there same (same_total t a) why
          (λ h. sym refusal ∙ c.in-Err.ensures.appends.total (ap Err h)),
      c.fault.ensures.said out (no_rule _ _ e why),
    )

pub returns-in-Ok-clause-layout : goal.returns-in-Ok-clause-layout
returns-in-Ok-clause-layout c =
    done_so (λ o. AddsTaken o c.args.layouts.now c.args.array) c.args.self.now.table c.in-Some.table c.append_hinted.new.self c.in-Some.is c.in-Ok.ensures.layout

pub returns-in-Err-clause-layout : goal.returns-in-Err-clause-layout
returns-in-Err-clause-layout c =
    let stays = c.in-Err.ensures.unchanged in
    chunks_stay c.fault.result (AddsTaken c.args.self.now.table c.args.layouts.now c.args.array) c.args.self.now.table c.in-Some.table c.append_hinted.new.self c.in-Some.is c.fault.ensures.refused stays.chunks
