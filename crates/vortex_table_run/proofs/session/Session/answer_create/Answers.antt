use Rattle.std.proofs.Common.{◌≡◌, [], map, refl}
use Rattle.vortex_dtype_core.specs.View.{type_of}
use Rattle.vortex_table_request.specs.View.{entry_of}
use Rattle.vortex_table_run.specs.CommandAnswers.{error_answer}
use Rattle.vortex_table_run.specs.State.{table_in}
use Rattle.vortex_table_run.proofs.Errors.{no_rule}
use Rattle.vortex_table_run.proofs.Responding.{create_refused}
use Rattle.vortex_table_run.proofs.Laying.{not_done, created_empty}
use Rattle.vortex_table_run.proofs.session.Session.answer_create.Goals as goal

pub returns-in-Err-clause-answers : goal.returns-in-Err-clause-answers
returns-in-Err-clause-answers c = λ out.
    let e = c.in-Err.error in
    (error_answer e, create_refused (table_in c.args.self.now) (type_of c.args.dtype) c.args.bound_length (map entry_of c.args.lengths.now) e c.in-Err.ensures.refused, c.fault.ensures.said out (no_rule _ _ e c.in-Err.ensures.refused))

pub returns-in-Ok-clause-layout : goal.returns-in-Ok-clause-layout
returns-in-Ok-clause-layout c = created_empty c.in-Ok.table (type_of c.args.dtype) c.args.bound_length _ c.in-Ok.ensures.made

pub returns-in-Err-clause-layout : goal.returns-in-Err-clause-layout
returns-in-Err-clause-layout c = not_done c.fault.result (λ old new. new ≡ []) c.args.self.now.table c.args.self.now.table c.fault.ensures.refused refl
